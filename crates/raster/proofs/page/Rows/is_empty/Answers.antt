use Rattle.raster.proofs.StoredLemmas.{length-stored_rows}
use Rattle.raster.proofs.page.Rows.is_empty.Goals as goal

pub returns : goal.returns
returns c = rw (← c.self.view_is, length-stored_rows) c.is_empty.ensures
