-- What the check asks of the text of a block under a number that was used.
use Rattle.captures.proofs.missing.UsedTextDisplay.fmt.Goals as goal

pub returns-clause-writes : goal.returns-clause-writes
returns-clause-writes g c = rw (← c.page_end.ensures) c.write.ensures.writes
