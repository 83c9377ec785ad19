use Rattle.hdlc.proofs.Hearing.{octets_grow as law}
use Rattle.hdlc.proofs.laws.frame_octets_grow.Goals as goal

pub returns : goal.returns
returns c = law
