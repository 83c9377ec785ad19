use Rattle.std.proofs.Common.{arith, length, sym, ◌≡◌, ◌∙◌}
use Rattle.std.proofs.lemmas.Bool.{eqb-true}
use Rattle.raster.proofs.AlikeLemmas.{black_turning, white_turning}
use Rattle.raster.proofs.packed.PackedBits.of_no_turn.Goals as goal

pub returns-then-is_empty-clause-colors : goal.returns-then-is_empty-clause-colors
returns-then-is_empty-clause-colors c =
    let none : length c.args.places.now ≡ 0 = eqb-true (length c.args.places.now) 0 (sym c.is_empty.ensures ∙ c.if-is_empty.true) in
    rw c.of_one.ensures (white_turning c.args.places.now c.args.width (omega (arith, none)))

pub returns-then-width-eq0-clause-colors : goal.returns-then-width-eq0-clause-colors
returns-then-width-eq0-clause-colors c =
    rw c.of_one-then-width-eq0.ensures (black_turning c.args.places.now c.args.width (omega arith) (omega arith))
