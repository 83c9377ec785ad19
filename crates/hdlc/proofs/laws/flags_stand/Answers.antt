use Rattle.hdlc.proofs.LawsOfFlags.{flags_stand as law}
use Rattle.hdlc.proofs.laws.flags_stand.Goals as goal

pub returns : goal.returns
returns c = law
