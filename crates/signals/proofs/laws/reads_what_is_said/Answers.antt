use Rattle.signals.proofs.SayingLemmas.{reads-said}
use Rattle.signals.proofs.laws.reads_what_is_said.Goals as goal

pub returns : goal.returns
returns c = reads-said
