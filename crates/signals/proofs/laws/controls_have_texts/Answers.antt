use Rattle.signals.proofs.ControlLemmas.{controls-have-texts}
use Rattle.signals.proofs.laws.controls_have_texts.Goals as goal

pub returns : goal.returns
returns c = controls-have-texts
