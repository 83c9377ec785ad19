use Rattle.std.proofs.Common.{take}
use Rattle.stations.specs.CallerFields.{AreCallable}
use Rattle.g3fax.proofs.beginning.are_callable.Given as goal

abbrev pub invariant-loop-page : goal.invariant-loop-page
invariant-loop-page l = AreCallable (take l.page-index l.pages)
