use Rattle.std.proofs.Common.{refl}
use Rattle.hdlc.proofs.octet_buffer.OctetBuffer.end.Goals as goal

pub returns : goal.returns
returns c = rw (c.from.ensures) refl
