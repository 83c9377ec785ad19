use Rattle.std.proofs.Common.{◌/◌, sym, ◌∙◌, arith}
use Rattle.raster.specs.Packed.{bits_of}
use Rattle.raster.specs.declared.packed.Order.TheVariants.{LsbFirst}
use Rattle.raster.proofs.PackedLemmas.{length-bits_in}
use Rattle.hdlc.specs.EightBits.{four}
use Rattle.hdlc.proofs.PlainOctets.{plain_if}
use Rattle.hdlc.proofs.gathering.gather_four.Goals as goal

pub with_plain-requires-clause-plain : goal.with_plain-requires-clause-plain
with_plain-requires-clause-plain c =
    plain_if (bits_of LsbFirst (four c.args.word)) (c.args.state.row / 256) (omega (arith, c.requires.sound.most))
    (sym c.fives-fives.ensures.is ∙ c.if-fives-eq0.true)

pub with_others-requires-clause-stuffed : goal.with_others-requires-clause-stuffed
with_others-requires-clause-stuffed c =
    c.stuffed_alone-power.ensures (bits_of LsbFirst (four c.args.word)) (length-bits_in LsbFirst _ 32) c.fives-fives.ensures.is (omega arith)
