use Rattle.std.proofs.Common.{arith, ◌^◌, ◌-◌, ◌/◌}
use Rattle.std.proofs.lemmas.Nat.{and_le_l}
use Rattle.raster.proofs.FirstLemmas.{Turns, turns_not, turns_as_is, first_in, first_one}
use Rattle.raster.proofs.words.first_in_word.Goals as goal
use Rattle.raster.proofs.words.first_in_word.Goals.{then-bit, else-bit}

pub returns : goal.returns
returns c =
    let turns : Turns c.args.bit c.args.word c.if-bit.turned =
    elim c.if-bit.branch [
      | then-bit w ↦ rw (w.if-bit.true, w.turned-is) (turns_not c.args.word c.ranges.word.fits)
      | else-bit w ↦ rw (w.if-bit.false, w.turned-is) (turns_as_is c.args.word c.ranges.word.fits)
    ] in
    first_in c.args.word c.args.from c.if-bit.turned _ c.args.bit c.requires turns
    (first_one _ (omega (arith, and_le_l c.if-bit.turned ((2 ^ 64 - 1) / 2 ^ c.args.from), turns.fits)))
