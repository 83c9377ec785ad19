-- Rows that follow one another in octets, so many each.
use Rattle.std.proofs.Common.{ℕ, zero, suc, ◌≡◌, ◌≤◌, ◌<◌, ◌+◌, ◌-◌, ◌*◌, ◌/◌, ◌%◌, ◌⊎◌, [], ◌∷◌, arith, inl, inr, refl, slice_index, sym}
use Rattle.std.proofs.lemmas.Bool.{cases_lt}
use Rattle.std.proofs.lemmas.Grind.{common_steps}
use Rattle.std.proofs.lemmas.Nat.{mul-le}
use Rattle.std.proofs.lemmas.Nat.Bits.{bit_at_lowest}
use Rattle.std.specs.Int.{bit_at}
use Rattle.raster.specs.Pbm.{stride}

-- what lies in an earlier row lies before a later one
pub lies_before : (r row each at : ℕ) → r < row → at < each → r * each + at < row * each
lies_before r row each at h k = let m : (r + 1) * each ≤ row * each = mul-le (r + 1) each row each (omega (arith, h)) (omega arith) in grind (arith, common_steps, m, k)

-- the octet of a bit lies in its row
pub octet_inside : (width at : ℕ) → at < 8 * stride width → at / 8 < stride width
octet_inside width at h = omega (arith, h)

-- a row is an earlier one, or this one
pub earlier_or_last : (r row : ℕ) → r < row + 1 → (r < row) ⊎ (row ≡ r)
earlier_or_last r row h = elim (cases_lt r row) [ inl less ↦ inl less | inr more ↦ inr (omega (arith, h, more)) ]

-- the bits of an octet, the highest one first
pub eight_bits : (o k : ℕ) → k < 8 →
    slice_index (o / 128 % 2 ∷ o / 64 % 2 ∷ o / 32 % 2 ∷ o / 16 % 2 ∷ o / 8 % 2 ∷ o / 4 % 2 ∷ o / 2 % 2 ∷ o % 2 ∷ []) k ≡ bit_at o (7 - k)
eight_bits o zero h = refl
eight_bits o (suc zero) h = refl
eight_bits o (suc (suc zero)) h = refl
eight_bits o (suc (suc (suc zero))) h = refl
eight_bits o (suc (suc (suc (suc zero)))) h = refl
eight_bits o (suc (suc (suc (suc (suc zero))))) h = refl
eight_bits o (suc (suc (suc (suc (suc (suc zero)))))) h = refl
eight_bits o (suc (suc (suc (suc (suc (suc (suc zero))))))) h = sym (bit_at_lowest o)
eight_bits o (suc (suc (suc (suc (suc (suc (suc (suc n)))))))) h = absurd (omega (arith, h))
