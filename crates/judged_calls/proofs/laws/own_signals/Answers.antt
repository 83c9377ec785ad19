use Rattle.judged_calls.proofs.OwnSignals.{own_signals}
use Rattle.judged_calls.proofs.laws.own_signals.Goals as goal

pub returns : goal.returns
returns c = own_signals
