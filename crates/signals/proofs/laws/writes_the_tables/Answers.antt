use Rattle.signals.proofs.SendingLemmas.{writes-tables}
use Rattle.signals.proofs.laws.writes_the_tables.Goals as goal

pub returns : goal.returns
returns c = writes-tables
