use Rattle.std.proofs.Common.{◌≡◌, ◌-◌, ◌*◌, arith, length, drop, refl, sym}
use Rattle.std.proofs.lemmas.List.{length-drop}
use Rattle.raster.specs.Packed.{bits_of}
use Rattle.raster.proofs.PackedLemmas.{length-bits_in}
use Rattle.page_code.proofs.one_dim.one_row.eol_after.Goals as goal

pub returns-else-zeros-lt11 : goal.returns-else-zeros-lt11
returns-else-zeros-lt11 c =
    let left : length (drop c.args.place (bits_of c.args.order c.args.octets.now)) ≡ 8 * length c.args.octets.now - c.args.place = simp
    (length-drop, length-bits_in) in
    (c.in-Some.zeros, sym c.in-Some.ensures.zeros, c.if-zeros-lt11.false, refl, omega (arith, left, c.in-Some.ensures.within))
