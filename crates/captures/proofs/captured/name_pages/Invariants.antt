-- What holds in the loop of `name_pages`.
use Rattle.std.proofs.Common.{◌≡◌, ◌++◌}
use Rattle.captures.proofs.MissingPages.{pages_from}
use Rattle.captures.proofs.captured.name_pages.Given as goal

abbrev pub invariant-loop-further : goal.invariant-loop-further
invariant-loop-further l = l.out.items ≡ l.initial.out.items ++ pages_from l.from l.further
