use Rattle.std.proofs.Common.{◌≡◌, List, ap, refl, replicate, subst, sym}
use Rattle.std.specs.Prelude.{OnOk}
use Rattle.std.proofs.lemmas.Result.{on_ok_weaker}
use Rattle.raster.specs.declared.packed.Order.TheVariants.{MsbFirst}
use Rattle.raster.specs.declared.row.Color.{Color}
use Rattle.raster.specs.Pbm.{row_pixels}
use Rattle.raster.specs.Pixels.{colors}
use Rattle.raster.specs.Stored.{Pushed}
use Rattle.raster.proofs.AlikeLemmas.{bits_alike}
use Rattle.raster.proofs.StoredLemmas.{as_many}
use Rattle.raster.proofs.page.append_octets.Goals as goal

pub returns-in-Some-clause-ok : goal.returns-in-Some-clause-ok
returns-in-Some-clause-ok c =
    let same : colors (replicate c.args.width c.in-Some.bit) ≡ row_pixels c.args.width c.args.row.now =
    ap colors (sym (bits_alike MsbFirst c.args.row.now c.args.width c.in-Some.bit c.in-Some.ensures.all)) in
    subst (λ (row : List Color). OnOk c.append_alike.result (Pushed c.args.width row c.args.octets.now.items c.append_alike.new.octets.items
    c.args.rows.now.items c.append_alike.new.rows.items)) same c.append_alike.ensures.ok

pub returns-clause-ok : goal.returns-clause-ok
returns-clause-ok c =
    on_ok_weaker c.push_place.result
    (λ pushed. pushed c.args.width (row_pixels c.args.width c.args.row.now) c.args.octets.now.items
    (as_many _ c.args.row.now c.args.width refl) c.requires.stored c.requires.room c.count_of-start.ensures c.in_ok-copy_to_end.ensures.ok)
    c.push_place.ensures.pushed
