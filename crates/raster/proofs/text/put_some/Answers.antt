use Rattle.std.proofs.Common.{◌≡◌, ◌+◌, ◌-◌, ◌*◌, false, refl, ap, sym, ◌∙◌, arith, slice_index}
use Rattle.raster.specs.Packed.{bit_in}
use Rattle.raster.specs.Text.{bit_text}
use Rattle.raster.specs.declared.packed.Order.TheVariants.{MsbFirst}
use Rattle.raster.proofs.text.put_some.Goals as goal

pub returns-then-are_white-clause-inside : goal.returns-then-are_white-clause-inside
returns-then-are_white-clause-inside c k low h =
    let place : 8 * c.args.at + (k - 8 * c.args.at) ≡ k = omega arith in
    let white : bit_in MsbFirst c.args.octets.now k ≡ false =
    ap (bit_in MsbFirst c.args.octets.now) (sym place) ∙ c.if-are_white.ensures.white refl (k - 8 * c.args.at) (omega arith) in
    ap (λ n. slice_index c.put_white.new.text n) (sym place) ∙
    (c.put_white.ensures.inside (k - 8 * c.args.at) (omega arith) ∙ ap bit_text (sym white))
