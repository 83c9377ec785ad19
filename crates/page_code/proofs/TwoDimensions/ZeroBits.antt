-- Only 0 bits, as a number of 64 bits.
use Rattle.std.proofs.Common.{
  ℕ,
  zero,
  suc,
  ◌≡◌,
  ◌≢◌,
  ◌-◌,
  ◌^◌,
  ◌/◌,
  ◌+◌,
  ◌<◌,
  Bool,
  true,
  false,
  List,
  [],
  ◌∷◌,
  length,
  ◌≤◌,
  nat_eq,
  refl,
  sym,
  ◌∙◌,
  arith,
  ap,
  drop,
}
use Rattle.std.specs.Prelude.{slice_index_or}
use Rattle.std.specs.Int.{bit_at}
use Rattle.std.proofs.lemmas.Bool.{false≢true}
use Rattle.std.proofs.lemmas.List.{drop_all, drop-drop}
use Rattle.std.proofs.lemmas.Nat.Bits.{bit_at-lt, bit_at-zero, same_from_bits_below}
use Rattle.raster.proofs.WordLemmas.{bit_at_shr}
use Rattle.run_tables.specs.Numbers.{AreFirst, number_text}
use Rattle.run_tables.specs.Reading.{Reading, rest_of}
use Rattle.run_tables.specs.Texts.{all_zero, begins}
use Rattle.run_tables.proofs.NumberLemmas.{begins_within, text_begins}
use Rattle.page_code.specs.TwoDimensions.Modes.{eofb}

-- of only 0 bits, each is a 0 bit
zero_at : (x : List Bool) (k : ℕ) → all_zero x ≡ true → slice_index_or x k false ≡ false
zero_at [] k e = refl
zero_at (true ∷ x) k e = absurd (false≢true e)
zero_at (false ∷ x) zero e = refl
zero_at (false ∷ x) (suc k) e = zero_at x k e

-- bits of which a number has the first 57, not all of them 0, are not only 0 bits
pub some_one : (x : List Bool) (word : ℕ) → word < 2 ^ 64 → AreFirst 57 x word → word / 2 ^ 7 ≢ 0 → all_zero x ≡ false
some_one x word small first some = seen (all_zero x) refl
  where
    not_one : (b : ℕ) → b < 2 → nat_eq b 1 ≡ false → b ≡ 0
    not_one zero h e = refl
    not_one (suc zero) h e = absurd (false≢true (sym e))
    not_one (suc (suc b)) h e = absurd (omega arith)

    none : all_zero x ≡ true → (i : ℕ) → i < 57 → bit_at (word / 2 ^ 7) i ≡ bit_at 0 i
    none e i h =
        let back : 63 - (56 - i) ≡ 7 + i = omega arith in
        let zero_bit : nat_eq (bit_at word (7 + i)) 1 ≡ false = rw back at (first (56 - i) (omega arith) ∙ zero_at x (56 - i) e) in
        bit_at_shr word 7 i ∙ (not_one (bit_at word (7 + i)) (bit_at-lt word (7 + i)) zero_bit ∙ sym (bit_at-zero i))

    seen : (b : Bool) → all_zero x ≡ b → all_zero x ≡ false
    seen true e = absurd (some (same_from_bits_below 57 (word / 2 ^ 7) 0 (omega (arith, small)) (omega arith) (none e)))
    seen false e = e

-- if the first bits are 0, the others are all 0 if and only if all are
zeros_before : (n : ℕ) (x : List Bool) → ((k : ℕ) → k < n → slice_index_or x k false ≡ false) → all_zero (drop n x) ≡ all_zero x
zeros_before zero x zeros = refl
zeros_before (suc n) [] zeros = refl
zeros_before (suc n) (true ∷ x) zeros = absurd (false≢true (sym (zeros 0 (omega arith))))
zeros_before (suc n) (false ∷ x) zeros = zeros_before n x (λ k h. zeros (suc k) (omega (arith, h)))

-- 57 bits that a number has are all 0
pub zeros_of : (x : List Bool) (word : ℕ) → AreFirst 57 x word → word / 2 ^ 7 ≡ 0 → (k : ℕ) → k < 57 → slice_index_or x k false ≡ false
zeros_of x word first none k h =
    let there : 63 - k ≡ 7 + (56 - k) = omega (arith, h) in
    let zero_bit : bit_at word (63 - k) ≡ 0 =
    ap (bit_at word) there ∙ (sym (bit_at_shr word 7 (56 - k)) ∙ (ap (λ (w : ℕ). bit_at w (56 - k)) none ∙ bit_at-zero (56 - k))) in
    sym (first k h) ∙ ap (λ (b : ℕ). nat_eq b 1) zero_bit

-- after 57 bits of 0, the bits are all 0 if and only if they were
pub zeros_passed : (old new : Reading) (word : ℕ) → AreFirst 57 (rest_of old) word → word / 2 ^ 7 ≡ 0
    → new ≡ record { bits = old.bits; place = old.place + 57 } → all_zero (rest_of new) ≡ all_zero (rest_of old)
zeros_passed old new word first none passed = ap (λ (r : Reading). all_zero (rest_of r)) passed
    ∙ (ap all_zero (sym (drop-drop 57 old.place old.bits)) ∙ zeros_before 57 (rest_of old) (zeros_of (rest_of old) word first none))

-- fewer than 57 bits are all 0 if the number that has them is
pub zeros_last : (x : List Bool) (word : ℕ) → AreFirst 57 x word → word / 2 ^ 7 ≡ 0 → length x < 57 → all_zero x ≡ true
zeros_last x word first none few =
    sym (zeros_before 57 x (zeros_of x word first none)) ∙ ap all_zero (drop_all 57 x (omega (arith, few)))

-- bits of which a number has the first 57, the first eleven not all 0, begin with no EOFB, have a 1 and are no part of EOFB
pub row_begun : (x : List Bool) (word : ℕ) → word < 2 ^ 64 → AreFirst 57 x word → 57 ≤ length x → word / 2 ^ 53 ≢ 0
    → (begins eofb x ≡ false) × (all_zero x ≡ false) × (begins x eofb ≡ false)
unfolding number_text
row_begun x word small first long some = (
  not_true (begins eofb x) (λ e.
      let both = text_begins 24 40 57 x word 4097 refl (omega arith) small (omega arith) first e in
      some (omega (arith, both.1))),
  some_one x word small first (λ none. some (omega (arith, none))),
  not_true (begins x eofb) (λ e. omega (arith, long, begins_within x eofb e)),
)
  where
    not_true : (b : Bool) → (b ≡ true → ⊥) → b ≡ false
    not_true true h = absurd (h refl)
    not_true false h = refl
