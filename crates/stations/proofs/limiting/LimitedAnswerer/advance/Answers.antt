use Rattle.std.proofs.Common.{sym, ap, subst, ◌∙◌}
use Rattle.stations.specs.AnswererStep.{Answerer}
use Rattle.stations.specs.Inputs.{answerer_input}
use Rattle.stations.specs.Limiting.{IsWithin, is_full}
use Rattle.stations.proofs.Room.{stays_within_heard}
use Rattle.stations.proofs.limiting.LimitedAnswerer.advance.Goals as goal

pub invariant_of-self-then-not-becomes_full : goal.invariant_of-self-then-not-becomes_full
invariant_of-self-then-not-becomes_full c =
    stays_within_heard c.stored_is_read.ensures.steps c.self.inside.limits c.self.inside.station c.step.new.self c.is_full-full.result
    (answerer_input c.args.input) (answerer_input c.as_heard.result)
    (c.is_full-full.ensures ∙ ap (is_full c.self.inside.limits) c.pages.ensures) c.as_heard.ensures
    c.in_ok-turn.ensures.answers.0 c.step.ensures.keeps (sym c.is_out.ensures ∙ c.if-is_out.false) c.self.invariant

pub returns-then-not-becomes_full-clause-within : goal.returns-then-not-becomes_full-clause-within
returns-then-not-becomes_full-clause-within c =
    stays_within_heard c.stored_is_read.ensures.steps c.self.inside.limits c.self.inside.station c.step.new.self c.is_full-full.result
    (answerer_input c.args.input) (answerer_input c.as_heard.result)
    (c.is_full-full.ensures ∙ ap (is_full c.self.inside.limits) c.pages.ensures) c.as_heard.ensures
    c.in_ok-turn.ensures.answers.0 c.step.ensures.keeps (sym c.is_out.ensures ∙ c.if-is_out.false) c.self.invariant

pub invariant_of-self-2 : goal.invariant_of-self-2
invariant_of-self-2 c =
    subst (λ (a : Answerer). IsWithin c.self.inside.limits a.pages) (sym c.become_busy.ensures)
    (stays_within_heard c.stored_is_read.ensures.steps c.self.inside.limits c.self.inside.station c.step.new.self c.is_full-full.result
    (answerer_input c.args.input) (answerer_input c.as_heard.result)
    (c.is_full-full.ensures ∙ ap (is_full c.self.inside.limits) c.pages.ensures) c.as_heard.ensures
    c.in_ok-turn.ensures.answers.0 c.step.ensures.keeps (sym c.is_out.ensures ∙ c.if-is_out.false) c.self.invariant)

pub returns-clause-within : goal.returns-clause-within
returns-clause-within c =
    subst (λ (a : Answerer). IsWithin c.self.inside.limits a.pages) (sym c.become_busy.ensures)
    (stays_within_heard c.stored_is_read.ensures.steps c.self.inside.limits c.self.inside.station c.step.new.self c.is_full-full.result
    (answerer_input c.args.input) (answerer_input c.as_heard.result)
    (c.is_full-full.ensures ∙ ap (is_full c.self.inside.limits) c.pages.ensures) c.as_heard.ensures
    c.in_ok-turn.ensures.answers.0 c.step.ensures.keeps (sym c.is_out.ensures ∙ c.if-is_out.false) c.self.invariant)
