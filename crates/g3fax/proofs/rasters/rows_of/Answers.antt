use Rattle.std.proofs.Common.{◌≡◌, ◌≤◌, ◌*◌, ◌-◌, ◌++◌, [], ◌∷◌, ℕ, List, length, take, drop, arith, length-drop, ap, ◌∙◌}
use Rattle.std.proofs.lemmas.List.{take_rest}
use Rattle.raster.specs.Pages.{PagePixels}
use Rattle.raster.specs.Pbm.{row_pixels, stride}
use Rattle.g3fax.proofs.RasterLemmas.{rows_none, rows_more, row_ends}
use Rattle.g3fax.proofs.rasters.rows_of.Goals as goal

pub loop-number-init : goal.loop-number-init
loop-number-init c = rw rows_none c.in-Ok.ensures.1

pub push_octets-requires : goal.push_octets-requires
push_octets-requires c =
    let at : ℕ = c.args.raster.now.stride * c.loop-number.number in
    let rest : List ℕ = take (length c.args.octets.now - at) (drop at c.args.octets.now) in
    let size : length rest ≡ length c.args.octets.now - at = ap length (take_rest c.args.octets.now at) ∙ length-drop at c.args.octets.now in
    let ends = row_ends (stride c.args.raster.now.width) c.args.raster.now.stride c.loop-number.number c.args.raster.now.rows
    c.loop-number-test.true in
    let room : stride c.args.raster.now.width ≤ length rest = omega (arith, size, ends, c.requires.octets) in
    omega (arith, room, ap (λ (page : PagePixels). page.width) c.loop-number.invariant)

pub loop-number-preserved : goal.loop-number-preserved
loop-number-preserved c =
    let at : ℕ = c.args.raster.now.stride * c.loop-number.number in
    rw (rows_more, ← take_rest c.args.octets.now at) (c.in-Ok-push_octets.ensures.2 ∙ ap (λ (page : PagePixels). record page {
      rows = page.rows ++ row_pixels page.width (take (length c.args.octets.now - at) (drop at c.args.octets.now)) ∷ [];
    }) c.loop-number.invariant)
