use Rattle.hdlc.proofs.DeframerPartsLemmas.{next_stands as law}
use Rattle.hdlc.proofs.laws.next_stands.Goals as goal

pub returns : goal.returns
returns c = law
