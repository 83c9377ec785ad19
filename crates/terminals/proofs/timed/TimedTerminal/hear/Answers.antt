-- What the check asks of `hear`.
use Rattle.terminals.proofs.timed.TimedTerminal.hear.Goals as goal

pub returns-clause-hears : goal.returns-clause-hears
returns-clause-hears g c = rw (← c.self.view_is) c.hear_noting.ensures.hears
