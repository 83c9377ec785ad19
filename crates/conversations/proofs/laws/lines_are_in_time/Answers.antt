use Rattle.conversations.proofs.LineEffects.{begins_when_named, in_time, named_begins}
use Rattle.conversations.proofs.laws.lines_are_in_time.Goals as goal

pub returns-clause-caller : goal.returns-clause-caller
returns-clause-caller c = in_time _

pub returns-clause-answerer : goal.returns-clause-answerer
returns-clause-answerer c = in_time _

pub returns-clause-begins : goal.returns-clause-begins
returns-clause-begins c = begins_when_named _ _

pub returns-clause-named : goal.returns-clause-named
returns-clause-named c = named_begins
