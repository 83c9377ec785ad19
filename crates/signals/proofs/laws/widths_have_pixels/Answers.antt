use Rattle.signals.proofs.AgreementLemmas.{widths-have-pixels}
use Rattle.signals.proofs.laws.widths_have_pixels.Goals as goal

pub returns : goal.returns
returns c = widths-have-pixels
