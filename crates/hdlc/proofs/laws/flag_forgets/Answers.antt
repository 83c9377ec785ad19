use Rattle.hdlc.proofs.FrameGrowsLemmas.{gaps_split as law}
use Rattle.hdlc.proofs.laws.flag_forgets.Goals as goal

pub returns : goal.returns
returns c = law
