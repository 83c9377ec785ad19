use Rattle.std.proofs.Common.{[], ◌∷◌, ◌++◌, ap}
use Rattle.std.specs.Prelude.{slice_index_or}
use Rattle.signals.specs.Signals.{rcp}
use Rattle.stations.specs.CallerStep.{fcds}
use Rattle.stations.specs.Inputs.{framed}
use Rattle.stations.proofs.lending.Items.burst.Goals as goal

pub returns : goal.returns
returns c = λ params.
    ap (λ pps. fcds c.args.map 0 (slice_index_or c.args.blocks.now c.args.block []) ++ framed rcp ∷ framed rcp ∷ framed rcp ∷ pps ∷ [])
    (c.pps.ensures params)
