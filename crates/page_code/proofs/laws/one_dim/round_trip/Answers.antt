use Rattle.page_code.proofs.OneDimension.Laws.{reads_code}
use Rattle.page_code.proofs.laws.one_dim.round_trip.Goals as goal

pub returns : goal.returns
returns c = reads_code
