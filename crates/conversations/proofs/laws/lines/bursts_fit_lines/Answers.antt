use Rattle.conversations.proofs.OneLine.{answerers_fit_lines, callers_fit_lines}
use Rattle.conversations.proofs.laws.lines.bursts_fit_lines.Goals as goal

pub returns-clause-caller : goal.returns-clause-caller
returns-clause-caller c = callers_fit_lines c.bursts_are_short.ensures.caller

pub returns-clause-answerer : goal.returns-clause-answerer
returns-clause-answerer c = answerers_fit_lines c.bursts_are_short.ensures.answerer
