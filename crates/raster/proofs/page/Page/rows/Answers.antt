use Rattle.raster.proofs.StoredLemmas.{all_wide, length-stored_rows}
use Rattle.raster.proofs.page.Page.rows.Goals as goal

pub returns-clause-page : goal.returns-clause-page
returns-clause-page c =
    rw (← c.self.view_is)
    (record {
      width = c.self.invariant.wide;
      wide = all_wide c.self.inside.width c.self.inside.octets.items c.self.inside.places.items;
      few = rw length-stored_rows c.self.invariant.few;
    })
