use Rattle.joined_terminals.proofs.HeldAnswers.{held_answers_are_steps}
use Rattle.joined_terminals.proofs.laws.held_answers_are_steps.Goals as goal

pub returns : goal.returns
returns c =
    held_answers_are_steps c.terminals_are_safe.ensures.takes
    (record {
      held = c.held_is_not_confirmed.ensures;
      serves = c.limited_serves.ensures;
      keeps = c.answerers_keep.ensures.keep;
      always = c.always_answered.ensures.always;
    })
