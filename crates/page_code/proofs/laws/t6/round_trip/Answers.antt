use Rattle.page_code.proofs.TwoDimensions.Prescribed.{reads_own_code}
use Rattle.page_code.proofs.laws.t6.round_trip.Goals as goal

pub returns : goal.returns
returns c = reads_own_code
