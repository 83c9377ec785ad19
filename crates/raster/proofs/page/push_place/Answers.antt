use Rattle.raster.proofs.StoredLemmas.{push_stored}
use Rattle.raster.proofs.page.push_place.Goals as goal

pub returns-in-Ok-clause-pushed : goal.returns-in-Ok-clause-pushed
returns-in-Ok-clause-pushed c width row old long stored room begins appends =
    rw (c.in-Ok.ensures.rows, c.push_reserved.ensures.octets, c.count_of.ensures, begins)
    (push_stored width row old c.args.octets.now.items c.args.rows.now.items c.args.alike long stored room appends)
