-- What the check asks of the text of a block after the end of a page.
use Rattle.captures.proofs.missing.AfterTextDisplay.fmt.Goals as goal

pub returns-clause-writes : goal.returns-clause-writes
returns-clause-writes g c = rw (← c.page_end.ensures) c.write.ensures.writes
