use Rattle.signals.proofs.TrainingLemmas.{check-good}
use Rattle.signals.proofs.laws.training_checks_are_good.Goals as goal

pub returns : goal.returns
returns c = check-good
