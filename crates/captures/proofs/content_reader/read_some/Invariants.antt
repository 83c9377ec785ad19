-- What holds in the loop of `read_some`.
use Rattle.std.proofs.Common.{[]}
use Rattle.std.specs.Io.KnownBytes.{Consumes}
use Rattle.captures.proofs.content_reader.read_some.Given as goal

abbrev pub invariant-loop-try : goal.invariant-loop-try
invariant-loop-try g l = Consumes (g.R.Read.remaining l.initial.reader) (g.R.Read.remaining l.reader) []
