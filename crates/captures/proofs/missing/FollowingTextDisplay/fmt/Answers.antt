-- What the check asks of the text of a page that had to follow.
use Rattle.captures.proofs.missing.FollowingTextDisplay.fmt.Goals as goal

pub returns-clause-writes : goal.returns-clause-writes
returns-clause-writes g c = rw (← c.page_end.ensures) c.write.ensures.writes
