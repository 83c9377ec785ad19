use Rattle.hdlc.proofs.OneFrame.{one_frame as law}
use Rattle.hdlc.proofs.laws.one_frame.Goals as goal

pub returns : goal.returns
returns c = law
