-- What holds in the loop of `said_of`.
use Rattle.std.proofs.Common.{◌≡◌, ◌++◌, drop, map}
use Rattle.call_logs.specs.Told.{plain_told, said_in}
use Rattle.referee.specs.History.{plain_said}
use Rattle.call_logs.proofs.verdicts.said_of.Given as goal

abbrev pub invariant-loop-one : goal.invariant-loop-one
invariant-loop-one l =
    map plain_said l.said.items ++ map said_in (map plain_told (drop l.one-index l.told)) ≡ map said_in (map plain_told l.fn.told)
