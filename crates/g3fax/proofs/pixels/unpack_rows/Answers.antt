use Rattle.std.proofs.Common.{rules, List, arith, refl, ap, sym, subst, inl, inr, ◌∙◌, ℕ, ◌≡◌, ◌≢◌, ◌≤◌, ◌<◌, ◌+◌, ◌-◌, ◌*◌, ◌/◌, ◌%◌, ◌⊎◌, length, slice_index, if◌then◌else◌, nat_lt}
use Rattle.std.proofs.lemmas.Grind.{common_steps}
use Rattle.g3fax.proofs.PixelLemmas.{earlier_or_last, lies_before, octet_inside}
use Rattle.raster.specs.Pbm.{stride}
use Rattle.g3fax.specs.PixelRows.{octets_out, packed_bit, pixel_before, rows_in, rows_status, AreFilled, SamePixels}
use Rattle.std.specs.Int.{bit_at}
use Rattle.g3fax.proofs.pixels.unpack_rows.Goals as goal

pub loop-row-preserved : goal.loop-row-preserved
loop-row-preserved c =
    let w : ℕ = c.args.width in
    let row : ℕ = c.loop-row.row in
    let now : List ℕ = c.unpack_row.new.buffer in
    let last : (at : ℕ) → at < w → slice_index now (row * w + at) ≡ packed_bit w c.args.packed.now row at = λ at k. c.unpack_row.ensures.row at k in
    let before : (r at : ℕ) → r < row → at < w → slice_index now (r * w + at) ≡ packed_bit w c.args.packed.now r at = λ r at h k.
    c.unpack_row.ensures.others (r * w + at) (inl (lies_before r row w at h k)) ∙ c.loop-row.invariant.same r at h k in
    record {
      same = λ r at h k. elim (earlier_or_last r row h) [
        | inl less ↦ before r at less k
        | inr is ↦ subst (λ (y : ℕ). slice_index now (y * w + at) ≡ packed_bit w c.args.packed.now y at) is (last at k)
      ];
      rest = λ k h. c.unpack_row.ensures.others k (inr (grind (arith, common_steps, h))) ∙ c.loop-row.invariant.rest k (grind (arith, common_steps, h));
      room = c.unpack_row.ensures.room ∙ c.loop-row.invariant.room;
    }
