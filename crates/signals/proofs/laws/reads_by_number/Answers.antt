use Rattle.signals.proofs.BitNumberLemmas.{reads-by-number}
use Rattle.signals.proofs.laws.reads_by_number.Goals as goal

pub returns : goal.returns
returns c = reads-by-number
