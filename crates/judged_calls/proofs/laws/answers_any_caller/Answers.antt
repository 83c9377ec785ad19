use Rattle.referee.specs.declared.rule.Rule.TheVariants as rule
use Rattle.judged_calls.proofs.AnyPeer.{keep_always}
use Rattle.judged_calls.proofs.laws.answers_any_caller.Goals as goal

pub returns-clause-side : goal.returns-clause-side
returns-clause-side c = keep_always c.always_answered.ensures.answerer rule.WrongSide tt

pub returns-clause-ended : goal.returns-clause-ended
returns-clause-ended c = keep_always c.always_answered.ensures.answerer rule.Ended tt

pub returns-clause-training : goal.returns-clause-training
returns-clause-training c = keep_always c.always_answered.ensures.answerer rule.NotTrained tt

pub returns-clause-blocks : goal.returns-clause-blocks
returns-clause-blocks c = keep_always c.always_answered.ensures.answerer rule.NoCommand tt
