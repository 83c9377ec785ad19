use Rattle.std.proofs.Common.{rules, List, arith, refl, ap, sym, subst, inl, inr, ◌∙◌, ℕ, ◌≡◌, ◌≢◌, ◌≤◌, ◌<◌, ◌+◌, ◌-◌, ◌*◌, ◌/◌, ◌%◌, ◌⊎◌, length, slice_index, if◌then◌else◌, nat_lt}
use Rattle.std.proofs.lemmas.Grind.{common_steps}
use Rattle.g3fax.proofs.PixelLemmas.{earlier_or_last, lies_before, octet_inside}
use Rattle.raster.specs.Pbm.{stride}
use Rattle.g3fax.specs.PixelRows.{octets_out, packed_bit, pixel_before, rows_in, rows_status, AreFilled, SamePixels}
use Rattle.std.specs.Int.{bit_at}
use Rattle.g3fax.proofs.pixels.pack_rows.Goals as goal

pub loop-row-preserved : goal.loop-row-preserved
loop-row-preserved c =
    let w : ℕ = c.args.width in
    let row : ℕ = c.loop-row.row in
    let now : List ℕ = c.pack_row.new.buffer in
    let pixels : List ℕ = c.args.pixels.now in
    let o : ℕ = stride w in
    let kept : (r at : ℕ) → r < row → at < 8 * o → packed_bit w now r at ≡ packed_bit w c.loop-row.buffer r at = λ r at h k.
    ap (λ octet. bit_at octet (7 - at % 8)) (c.pack_row.ensures.others (r * o + at / 8) (inl (lies_before r row o (at / 8) h (octet_inside w at k)))) in
    let inside : (at : ℕ) → at < w → slice_index pixels (row * w + at) ≡ packed_bit w now row at = λ at k.
    let below : row * w + at < row * w + w = omega (arith, k) in
    let e : pixel_before (row * w + w) pixels (row * w + at) ≡ slice_index pixels (row * w + at) = grind (arith, common_steps, below) in
    sym (c.pack_row.ensures.row at (omega (arith, k)) ∙ e) in
    let after : (at : ℕ) → w ≤ at → at < 8 * o → packed_bit w now row at ≡ 0 = λ at m k.
    let above : row * w + w ≤ row * w + at = omega (arith, m) in
    let e : pixel_before (row * w + w) pixels (row * w + at) ≡ 0 = grind (arith, common_steps, above) in
    c.pack_row.ensures.row at k ∙ e in
    record {
      same = λ r at h k. elim (earlier_or_last r row h) [
        | inl less ↦ c.loop-row.invariant.same r at less k ∙ sym (kept r at less (omega (arith, k)))
        | inr is ↦ subst (λ (y : ℕ). slice_index pixels (y * w + at) ≡ packed_bit w now y at) is (inside at k)
      ];
      filled = λ r at h m k. elim (earlier_or_last r row h) [
        | inl less ↦ kept r at less k ∙ c.loop-row.invariant.filled r at less m k
        | inr is ↦ subst (λ (y : ℕ). packed_bit w now y at ≡ 0) is (after at m k)
      ];
      rest = λ k h. c.pack_row.ensures.others k (inr (grind (arith, common_steps, h))) ∙ c.loop-row.invariant.rest k (grind (arith, common_steps, h));
      room = c.pack_row.ensures.room ∙ c.loop-row.invariant.room;
    }
