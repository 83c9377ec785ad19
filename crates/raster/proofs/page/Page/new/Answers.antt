use Rattle.std.proofs.Common.{refl, arith}
use Rattle.raster.proofs.StoredLemmas.{stored_rows-none}
use Rattle.raster.proofs.page.Page.new.Goals as goal

pub returns : goal.returns
returns c =
    ((omega arith, omega arith), rw (c.new-2.ensures.items, stored_rows-none) refl)
