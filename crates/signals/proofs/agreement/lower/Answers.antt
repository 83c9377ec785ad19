use Rattle.std.proofs.Common.{sym, ◌∙◌}
use Rattle.signals.proofs.AgreementLemmas.{lower-tried, lower-untried}
use Rattle.signals.proofs.agreement.lower.Goals as goal

pub returns-then-not-is_common : goal.returns-then-not-is_common
returns-then-not-is_common c = sym (lower-untried _ _ _ (sym c.is_common.ensures ∙ c.if-not-is_common.true))

pub returns : goal.returns
returns c = simp (c.after-below.ensures, c.order.ensures) at c.first_common.ensures
    ∙ sym (lower-tried _ _ _ (sym c.is_common.ensures ∙ c.if-not-is_common.false))
