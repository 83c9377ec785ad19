use Rattle.stations.proofs.LayerLaws.{layers_hold_by}
use Rattle.stations.proofs.laws.layers_hold.Goals as goal

pub returns : goal.returns
returns c =
    layers_hold_by c.round_trip.ensures.gives c.page_is_cut_into_full_frames.ensures c.page_stays_within_limit.ensures
