use Rattle.hdlc.proofs.Hearing.{new_idle as law}
use Rattle.hdlc.proofs.laws.new_is_idle.Goals as goal

pub returns : goal.returns
returns c = law
