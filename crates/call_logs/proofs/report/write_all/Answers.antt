-- What the check asks of `write_all`.
use Rattle.std.proofs.Common.{◌≤◌, ℕ, subst}
use Rattle.call_logs.specs.Told.{plain_told}
use Rattle.call_logs.proofs.AllFound.{all_done}
use Rattle.call_logs.proofs.report.write_all.Goals as goal

pub returns-clause-text : goal.returns-clause-text
returns-clause-text g c =
    all_done plain_told c.args.form c.args.told.now c.args.found.now c.loop-at.at (g.W.Write.contents c.args.writer.now)
    (g.W.Write.contents c.loop-at.writer) (subst (λ (n : ℕ). n ≤ c.loop-at.at) c.min-at-end.ensures c.loop-at-test.false) c.loop-at.invariant
