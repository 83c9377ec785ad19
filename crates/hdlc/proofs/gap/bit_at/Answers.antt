use Rattle.hdlc.proofs.BitPlaces.{bit_of-one}
use Rattle.hdlc.proofs.gap.bit_at.Goals as goal

pub returns : goal.returns
returns c = bit_of-one c.args.octet c.args.place c.requires
