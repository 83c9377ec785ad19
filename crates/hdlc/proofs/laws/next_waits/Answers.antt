use Rattle.hdlc.proofs.DeframerPartsLemmas.{next_content as law}
use Rattle.hdlc.proofs.laws.next_waits.Goals as goal

pub returns : goal.returns
returns c = law
