use Rattle.judged_calls.proofs.SameData.{data_stay}
use Rattle.judged_calls.proofs.laws.data_stay.Goals as goal

pub returns : goal.returns
returns c = data_stay
