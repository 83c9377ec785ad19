use Rattle.raster.proofs.TurningLemmas.{changes-turning}
use Rattle.raster.proofs.row.Row.painted_turns.Goals as goal

pub returns-clause-changes : goal.returns-clause-changes
returns-clause-changes c =
    rw c.in_ok-pixels.ensures.colors (changes-turning c.args.places.now c.args.width c.requires.rising c.requires.below)
