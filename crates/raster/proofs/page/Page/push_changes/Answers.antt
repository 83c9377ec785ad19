use Rattle.std.proofs.Common.{ap, arith, length}
use Rattle.raster.specs.Pages.{PagePixels}
use Rattle.raster.proofs.StoredLemmas.{length-stored_rows}
use Rattle.raster.proofs.page.Page.push_changes.Goals as goal

pub append_changes-requires-clause-room : goal.append_changes-requires-clause-room
append_changes-requires-clause-room c =
    omega (
      arith,
      c.requires.room,
      ap (λ (page : PagePixels). length page.rows) c.self.view_is,
      length-stored_rows c.self.inside.width c.self.inside.octets.items c.self.inside.places.items,
    )
