use Rattle.std.proofs.Common.{rules, arith, ap, sym, ◌∙◌, ◌≡◌, ◌<◌, ℕ, w64, get_or, bit_xor}
use Rattle.std.specs.Int.{bit_at, trailing_zeros}
use Rattle.std.proofs.lemmas.Nat.Bits.{bit_at-trailing_zeros}
use Rattle.raster.proofs.RowLemmas.{color_of-is}
use Rattle.raster.proofs.FirstLemmas.{first_one_of_octet}
use Rattle.raster.proofs.BlockLemmas.{IsFill, fill_black, fill_white, others, others_within, first_none, first_some, block_change}
use Rattle.raster.proofs.BlockLemmas.{xor_below}
use Rattle.raster.proofs.blocks.block_change.Goals as goal
use Rattle.raster.proofs.blocks.block_change.Goals.{then-is, else-is}

pub returns-then-others-eq0 : goal.returns-then-others-eq0
returns-then-others-eq0 c =
    let fill : IsFill c.is.result c.if-is.same =
    elim c.if-is.branch [
      | then-is w ↦ rw (w.same-is, w.if-is.true) fill_black
      | else-is w ↦ rw (w.same-is, w.if-is.false) fill_white
    ] in
    let none : others c.args.octets.now c.if-is.same ≡ 0 = sym c.differing-others.ensures ∙ omega arith in
    block_change c.args.octets.now c.args.before c.is.result 256 (color_of-is c.args.before c.is.result (c.is.ensures.0, c.is.ensures.1))
    (first_none c.args.octets.now c.if-is.same c.is.result fill (omega arith) none)

pub bounds-octets-at : goal.bounds-octets-at
bounds-octets-at c =
    let some : 0 < c.differing-others.result = omega arith in
    let found = bit_at-trailing_zeros w64 c.differing-others.result some (search rules) in
    others_within c.args.octets.now c.if-is.same _ (omega arith) (ap (λ n. bit_at n (trailing_zeros w64 c.differing-others.result)) (sym
    c.differing-others.ensures) ∙ found.1)

pub returns : goal.returns
returns c =
    let fill : IsFill c.is.result c.if-is.same =
    elim c.if-is.branch [
      | then-is w ↦ rw (w.same-is, w.if-is.true) fill_black
      | else-is w ↦ rw (w.same-is, w.if-is.false) fill_white
    ] in
    let some : 0 < c.differing-others.result = omega arith in
    let t : ℕ = trailing_zeros w64 c.differing-others.result in
    let found = bit_at-trailing_zeros w64 c.differing-others.result some (search rules) in
    block_change c.args.octets.now c.args.before c.is.result _ (color_of-is c.args.before c.is.result (c.is.ensures.0, c.is.ensures.1))
    (first_some c.args.octets.now c.if-is.same (trailing_zeros w64 c.differing-others.result) _ c.is.result fill (omega arith) (search
    rules)
    (ap (λ n. bit_at n (trailing_zeros w64 c.differing-others.result)) (sym c.differing-others.ensures) ∙ found.1)
    (λ i h. ap (λ n. bit_at n i) (sym c.differing-others.ensures) ∙ found.2 i h)
    (first_one_of_octet (bit_xor (get_or c.args.octets.now (trailing_zeros w64 c.differing-others.result) 0) c.if-is.same)
    (xor_below (get_or c.args.octets.now (trailing_zeros w64 c.differing-others.result) 0) c.if-is.same (search rules) fill.small)))
