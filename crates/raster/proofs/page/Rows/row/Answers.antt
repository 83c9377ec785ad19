use Rattle.std.proofs.Common.{◌<◌, ap, arith, length}
use Rattle.raster.proofs.StoredLemmas.{length-stored_rows, slice_get-stored_rows-at}
use Rattle.raster.proofs.page.Rows.row.Goals as goal

pub returns : goal.returns
returns c =
    let within : c.args.at < length c.self.inside.places.now =
    omega (arith, c.requires, ap length c.self.view_is, length-stored_rows c.self.inside.width c.self.inside.octets.now c.self.inside.places.now) in
    rw (← c.self.view_is, c.row_of.ensures)
    (slice_get-stored_rows-at c.self.inside.width c.self.inside.octets.now c.self.inside.places.now c.args.at _ within)
