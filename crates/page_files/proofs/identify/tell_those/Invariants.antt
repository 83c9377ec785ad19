-- What holds in the loop of `tell_those`.
use Rattle.std.proofs.Common.{take}
use Rattle.std.specs.Io.KnownBytes.{Appends}
use Rattle.page_files.specs.Identified.{lines_of}
use Rattle.page_files.proofs.identify.tell_those.Given as goal

abbrev pub invariant-loop-one : goal.invariant-loop-one
invariant-loop-one g l =
    Appends (g.W.Write.contents l.fn.writer) (g.W.Write.contents l.writer) (lines_of l.fit l.octets (take l.one-index l.tried))
