use Rattle.std.proofs.Common.{◌≡◌, true, IfOk, sym, subst, rules}
use Rattle.signals.proofs.AgreementLemmas.{agreed-allowed, first_filtered}
use Rattle.signals.specs.Agreement.{allowed}
use Rattle.signals.proofs.agreement.agree.Goals as goal

pub returns-clause-agreed : goal.returns-clause-agreed
returns-clause-agreed c = search (rules, first_filtered)

pub returns-clause-allowed : goal.returns-clause-allowed
returns-clause-allowed c =
    subst (λ r. IfOk r (λ params. allowed c.args.caps.now params ≡ true)) (sym (returns-clause-agreed c))
    (agreed-allowed c.args.caps.now c.args.wish.now c.args.width c.args.fine)
