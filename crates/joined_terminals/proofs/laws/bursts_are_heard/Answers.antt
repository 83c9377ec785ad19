use Rattle.joined_terminals.proofs.Bursts.{bursts_are_heard}
use Rattle.joined_terminals.proofs.laws.bursts_are_heard.Goals as goal

pub returns : goal.returns
returns c = bursts_are_heard c.flag_forgets.ensures c.signals_arrive.ensures c.bits_join.ensures
