use Rattle.signals.proofs.WritingLemmas.{reads-written}
use Rattle.signals.proofs.laws.reads_what_is_written.Goals as goal

pub returns : goal.returns
returns c = reads-written
