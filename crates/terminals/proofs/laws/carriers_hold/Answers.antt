use Rattle.terminals.proofs.Clocks.{calm_is_quiet, carriers_hold}
use Rattle.terminals.proofs.laws.carriers_hold.Goals as goal

pub returns-clause-hold : goal.returns-clause-hold
returns-clause-hold c = carriers_hold

pub returns-clause-calm : goal.returns-clause-calm
returns-clause-calm c = calm_is_quiet
