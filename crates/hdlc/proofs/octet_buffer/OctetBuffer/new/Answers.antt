use Rattle.std.proofs.Common.{refl}
use Rattle.hdlc.proofs.Assembling.{none_yet}
use Rattle.hdlc.proofs.octet_buffer.OctetBuffer.new.Goals as goal

pub returns : goal.returns
returns c = none_yet _ refl refl c.new.ensures refl
