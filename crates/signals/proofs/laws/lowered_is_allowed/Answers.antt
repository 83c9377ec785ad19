use Rattle.signals.proofs.AgreementLemmas.{lowered-allowed}
use Rattle.signals.proofs.laws.lowered_is_allowed.Goals as goal

pub returns : goal.returns
returns c = lowered-allowed
