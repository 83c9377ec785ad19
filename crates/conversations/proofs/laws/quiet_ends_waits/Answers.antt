use Rattle.conversations.proofs.GivenLines.{quiet_ends_waits}
use Rattle.conversations.proofs.laws.quiet_ends_waits.Goals as goal

pub returns-clause-caller : goal.returns-clause-caller
returns-clause-caller c = quiet_ends_waits c.passed_are_over.ensures.over _ _

pub returns-clause-answerer : goal.returns-clause-answerer
returns-clause-answerer c = quiet_ends_waits c.passed_are_over.ensures.over _ _
