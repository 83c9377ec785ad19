use Rattle.signals.proofs.AgreementLemmas.{agreed-allowed, agreed-fits}
use Rattle.signals.proofs.laws.agreed_is_allowed.Goals as goal

pub returns : goal.returns
returns c = record { allowed = agreed-allowed; fits = agreed-fits }
