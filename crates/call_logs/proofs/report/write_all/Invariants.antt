-- What holds in the loop of `write_all`.
use Rattle.call_logs.specs.Told.{plain_told}
use Rattle.call_logs.proofs.AllFound.{AllLeft}
use Rattle.call_logs.proofs.report.write_all.Given as goal

abbrev pub invariant-loop-at : goal.invariant-loop-at
invariant-loop-at g l =
    AllLeft plain_told l.form l.told l.found l.at (g.W.Write.contents l.initial.writer) (g.W.Write.contents l.writer)
