use Rattle.std.proofs.Common.{arith, sym, ◌∙◌}
use Rattle.raster.specs.declared.packed.Order.TheVariants.{MsbFirst}
use Rattle.raster.proofs.AlikeLemmas.{bits_alike}
use Rattle.raster.proofs.PackedLemmas.{bits_in-same, bit_in-take}
use Rattle.raster.proofs.packed.PackedBits.copied.Goals as goal

pub returns-in-Some : goal.returns-in-Some
returns-in-Some c = c.of_one.ensures ∙ sym (bits_alike MsbFirst c.args.octets.now c.args.count c.in-Some.bit c.in-Some.ensures.all)

pub returns : goal.returns
returns c =
    bits_in-same MsbFirst _ c.args.octets.now c.args.count
    (λ k h. c.clear_after.ensures.same k h ∙ rw (c.in_ok-extend_from_slice.ensures.items, c.in_ok-kept.ensures.items) (bit_in-take
    MsbFirst c.args.octets.now c.octets_for-needed.result k (omega arith)))
