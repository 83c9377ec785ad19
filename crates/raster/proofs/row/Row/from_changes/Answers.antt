use Rattle.raster.proofs.TurningLemmas.{changes-turning}
use Rattle.raster.proofs.row.Row.from_changes.Goals as goal

pub returns-in-Some-clause-changes : goal.returns-in-Some-clause-changes
returns-in-Some-clause-changes c =
    rw c.in-Some.ensures.colors (changes-turning c.args.places.now c.args.width c.requires.rising c.requires.below)
