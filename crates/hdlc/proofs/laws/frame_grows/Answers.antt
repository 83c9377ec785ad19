use Rattle.hdlc.proofs.FrameGrowsLemmas.{frame_grows as law}
use Rattle.hdlc.proofs.laws.frame_grows.Goals as goal

pub returns : goal.returns
returns c = law
