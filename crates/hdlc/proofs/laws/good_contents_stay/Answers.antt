use Rattle.hdlc.proofs.Gaps.{good_stays as law}
use Rattle.hdlc.proofs.laws.good_contents_stay.Goals as goal

pub returns : goal.returns
returns c = law
