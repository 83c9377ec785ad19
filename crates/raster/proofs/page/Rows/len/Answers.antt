use Rattle.std.proofs.Common.{sym}
use Rattle.raster.proofs.StoredLemmas.{length-stored_rows}
use Rattle.raster.proofs.page.Rows.len.Goals as goal

pub returns-clause-length : goal.returns-clause-length
returns-clause-length c =
    rw (← c.self.view_is) (sym (length-stored_rows c.self.inside.width c.self.inside.octets.now c.self.inside.places.now))
