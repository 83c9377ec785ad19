use Rattle.signals.proofs.WritingLemmas.{written-fits}
use Rattle.signals.proofs.laws.written_fits_a_frame.Goals as goal

pub returns : goal.returns
returns c = written-fits
