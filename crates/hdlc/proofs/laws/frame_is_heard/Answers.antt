use Rattle.hdlc.proofs.Hearing.{frame_heard as law}
use Rattle.hdlc.proofs.laws.frame_is_heard.Goals as goal

pub returns : goal.returns
returns c = law
