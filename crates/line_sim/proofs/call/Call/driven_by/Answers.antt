use Rattle.std.proofs.Common.{◌≡◌, ◌↔◌, Some, refl, sym, subst, ap, ◌∙◌}
use Rattle.std.specs.Prelude.{IsTrue}
use Rattle.std.proofs.lemmas.Bool.{iff_false}
use Rattle.line_sim.specs.Entries.{head_kind}
use Rattle.line_sim.specs.Fates.{Follows, MayAct, is_one_too_many}
use Rattle.line_sim.specs.declared.event.Kind.TheVariants.{Training}
use Rattle.line_sim.proofs.Fates.{may_back, may_there, meets_back, meets_there, waits_next}
use Rattle.line_sim.proofs.call.Call.driven_by.Goals as goal

pub returns-then-not-is_empty-clause-next : goal.returns-then-not-is_empty-clause-next
returns-then-not-is_empty-clause-next c same p d shows is few_dis few_rnrs =
    subst (Follows p d.world.to_answerer d.world.to_caller d) (sym c.to_answerer.ensures)
    (meets_there p d.world.to_answerer d.world.to_caller d c.args.fate c.has_check.result
    (λ e. iff_false c.is_empty.ensures c.if-not-is_empty.true (sym shows.to_answerer ∙ e))
    (subst (λ items. IsTrue c.has_check.result ↔ (head_kind items ≡ Some Training)) (sym shows.to_answerer) c.has_check.ensures) is)

pub returns-then-not-is_empty-clause-may : goal.returns-then-not-is_empty-clause-may
returns-then-not-is_empty-clause-may c =
    subst (λ act. MayAct c.args.few_dis c.args.few_rnrs (head_kind c.args.self.now.to_caller) (Some act)) (sym c.to_answerer.ensures)
    (may_there c.args.few_dis c.args.few_rnrs (head_kind c.args.self.now.to_caller) c.args.fate c.has_check.result)

pub returns-then-not-is_empty-2-clause-next : goal.returns-then-not-is_empty-2-clause-next
returns-then-not-is_empty-2-clause-next c same p d shows is few_dis few_rnrs =
    subst (Follows p d.world.to_answerer d.world.to_caller d) (sym c.to_caller.ensures)
    (meets_back p d.world.to_answerer d.world.to_caller d c.args.fate c.has_one_too_many.result
    (shows.to_answerer ∙ c.is_empty.ensures.0 c.if-not-is_empty.false)
    (λ e. iff_false c.is_empty-2.ensures c.if-not-is_empty-2.true (sym shows.to_caller ∙ e)) refl
    (ap (λ b. is_one_too_many b d.world.to_caller) few_rnrs ∙
    (ap (λ ys. is_one_too_many c.args.few_rnrs ys) shows.to_caller ∙ sym c.has_one_too_many.ensures)) is)

pub returns-then-not-is_empty-2-clause-may : goal.returns-then-not-is_empty-2-clause-may
returns-then-not-is_empty-2-clause-may c =
    subst (λ act. MayAct c.args.few_dis c.args.few_rnrs (head_kind c.args.self.now.to_caller) (Some act)) (sym c.to_caller.ensures)
    (may_back c.args.few_dis c.args.few_rnrs c.args.self.now.to_caller c.args.fate c.has_one_too_many.result
    (sym c.has_one_too_many.ensures))

pub returns-clause-next : goal.returns-clause-next
returns-clause-next c same p d shows is few_dis few_rnrs =
    waits_next p d.world.to_answerer d.world.to_caller d c.args.few_dis c.wait_over.result
    (shows.to_answerer ∙ c.is_empty.ensures.0 c.if-not-is_empty.false)
    (shows.to_caller ∙ c.is_empty-2.ensures.0 c.if-not-is_empty-2.false) few_dis (c.wait_over.ensures.is same d.world shows)

pub returns-clause-may : goal.returns-clause-may
returns-clause-may c = c.wait_over.ensures.may c.args.few_rnrs
