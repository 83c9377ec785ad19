use Rattle.page_code.proofs.TwoDimensions.ByPlaces.{prescribes_by_places, modes_by_value}
use Rattle.page_code.proofs.laws.t6.prescribes_by_places.Goals as goal

pub returns : goal.returns
returns c = record { modes = prescribes_by_places; codes = modes_by_value }
