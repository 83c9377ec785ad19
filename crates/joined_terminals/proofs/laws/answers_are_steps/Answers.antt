use Rattle.joined_terminals.proofs.DrivenCalls.{answers_are_steps}
use Rattle.joined_terminals.proofs.laws.answers_are_steps.Goals as goal

pub returns : goal.returns
returns c = answers_are_steps c.terminals_are_safe.ensures.takes
