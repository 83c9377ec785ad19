-- What the check asks of `marked`.
use mir.Val.{bool_byte}
use Rattle.std.proofs.Common.{◌≡◌, ◌+◌, ◌≤◌, Bool, true, false, cond, ap, sym, refl, ◌∙◌, arith}
use Rattle.std.specs.List.{fold}
use Rattle.raster.specs.declared.packed.Order.TheVariants.{LsbFirst}
use Rattle.raster.proofs.PackedLemmas.{bits_in-none}
use Rattle.captures.specs.Texts.{and_bit}
use Rattle.captures.proofs.MarkedFrames.{one_frame_more}
use Rattle.captures.proofs.texts.marked.Goals as goal

byte_is : (bit : Bool) → bool_byte bit ≡ cond bit 1 0
byte_is true = refl
byte_is false = refl

byte_few : (bit : Bool) → bool_byte bit ≤ 1
byte_few true = omega arith
byte_few false = omega arith

pub loop-number-init : goal.loop-number-init
loop-number-init c = (sym (ap (fold and_bit 0) (bits_in-none LsbFirst c.args.map.now)), omega arith)

pub loop-number-preserved : goal.loop-number-preserved
loop-number-preserved c = (
  ap (λ n. c.loop-number.count + n) (byte_is c.bit_of.result) ∙
      (ap (λ bit. c.loop-number.count + cond bit 1 0) c.bit_of.ensures ∙
      one_frame_more c.args.map.now c.loop-number.number c.loop-number.count c.loop-number.invariant.0),
  omega (arith, byte_few c.bit_of.result, c.loop-number.invariant.1),
)
