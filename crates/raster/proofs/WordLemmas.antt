-- Bits of octets as numbers of 64 bits.
use Rattle.std.proofs.Common.{◌≡◌, ℕ, ◌+◌, ◌-◌, ◌*◌, ◌/◌, ◌%◌, ◌^◌, ◌<◌, ◌≤◌, ◌||◌, true, false, List, [], ◌∷◌, refl, sym, ap, ◌∙◌}
use Rattle.std.proofs.Common.{get_or, nat_eq, arith, bit_and, bit_or, zero, suc, w8, w64, inl, inr, max, length}
use Rattle.std.specs.Int.{bit_at, bit_not, reverse_bits, reverse_bits_onto, from_be_bytes, to_be_bytes}
use Rattle.std.proofs.lemmas.Nat.{shr-shr, or_shifted, shl_whole, pow_pos, pow-add}
use Rattle.std.proofs.lemmas.Nat.Bits.{bit_at_lowest, bit_at-suc, bit_at-zero, bit_at_or, bit_at_cat_low, bit_at_cat_high, bit_at_above}
use Rattle.std.proofs.lemmas.Nat.Bits.{bit_at-lt, bit_at_and, bit_at_not, bit_at_ones, bit_at_ones_above, ones_shr}
use Rattle.std.proofs.lemmas.Bool.{cases_lt}
use Rattle.std.specs.Prelude.{slice_index}
use Rattle.raster.specs.Packed.{bit_in, place_in}
use Rattle.raster.specs.Words.{IsWordAt, bit_of_word, turned_octet}
use Rattle.raster.proofs.PackedLemmas.{place_in-same, bit_in-past}
use Rattle.raster.specs.declared.packed.Order.{Order}
use Rattle.raster.specs.declared.packed.Order.TheVariants.{LsbFirst, MsbFirst}

-- ---- shifts

-- the low bits of a rest are those of the number
pub bit_at_rest : (x w i : ℕ) → i < w → bit_at (x % 2 ^ w) i ≡ bit_at x i
bit_at_rest x w i h =
    let some : 0 < 2 ^ w = pow_pos w in
    let split : x ≡ x / 2 ^ w * 2 ^ w + x % 2 ^ w = omega arith in
    sym (ap (λ n. bit_at n i) split ∙ bit_at_cat_low (x / 2 ^ w) w (x % 2 ^ w) i h)

pub bit_at_shl_low : (x s i : ℕ) → i < s → bit_at (x * 2 ^ s) i ≡ 0
bit_at_shl_low x s i h =
    let e : x * 2 ^ s ≡ x * 2 ^ s + 0 = omega arith in
    ap (λ n. bit_at n i) e ∙ (bit_at_cat_low x s 0 i h ∙ bit_at-zero i)

pub bit_at_shl_high : (x s i : ℕ) → s ≤ i → bit_at (x * 2 ^ s) i ≡ bit_at x (i - s)
bit_at_shl_high x s i h =
    let e : x * 2 ^ s ≡ x * 2 ^ s + 0 = omega arith in
    ap (λ n. bit_at n i) e ∙ bit_at_cat_high x s 0 i (pow_pos s) h

pub bit_at_shr : (x s i : ℕ) → bit_at (x / 2 ^ s) i ≡ bit_at x (s + i)
bit_at_shr x s i = ap (λ n. n % 2) (shr-shr x s i)

-- ---- the order of bits turned

onto_old : (k n a i : ℕ) → k ≤ i → bit_at (reverse_bits_onto k n a) i ≡ bit_at a (i - k)
unfolding reverse_bits_onto
onto_old zero n a i h = let e : i ≡ i - 0 = omega arith in ap (bit_at a) e
onto_old (suc k) n a i h =
    let e : i - k - 1 ≡ i - suc k = omega arith in
    onto_old k (n / 2) (a * 2 + n % 2) i (omega arith) ∙ (bit_at_cat_high a 1 (n % 2) (i - k) (omega arith) (omega arith) ∙ ap (bit_at a) e)

onto_new : (k n a i : ℕ) → i < k → bit_at (reverse_bits_onto k n a) i ≡ bit_at n (k - 1 - i)
unfolding reverse_bits_onto
onto_new zero n a i h = absurd (omega arith)
onto_new (suc k) n a i h =
    elim (cases_lt i k) [
      | inl lt ↦
          let e : suc (k - 1 - i) ≡ suc k - 1 - i = omega arith in
          onto_new k (n / 2) (a * 2 + n % 2) i lt ∙ (sym (bit_at-suc n (k - 1 - i)) ∙ ap (bit_at n) e)
      | inr le ↦
          let none : i - k ≡ 0 = omega arith in
          let first : suc k - 1 - i ≡ 0 = omega arith in
          onto_old k (n / 2) (a * 2 + n % 2) i le ∙
          (ap (bit_at (a * 2 + n % 2)) none ∙ (last ∙ ap (bit_at n) (sym first)))
    ]
  where
    last : bit_at (a * 2 + n % 2) 0 ≡ bit_at n 0
    last = bit_at_lowest (a * 2 + n % 2) ∙ (omega arith ∙ sym (bit_at_lowest n))

pub bit_at_turned8 : (n k : ℕ) → k < 8 → bit_at (reverse_bits w8 n) (7 - k) ≡ bit_at n k
bit_at_turned8 n k h = let e : 7 - (7 - k) ≡ k = omega arith in onto_new 8 n 0 (7 - k) (omega arith) ∙ ap (bit_at n) e

-- ---- octets as a number, the first of them the highest

-- the first octets are in the word, each with its first bit the highest
pub record HasOctets (order : Order) (octets : List ℕ) (at n word : ℕ) : Type 0 where
  pub small : word < 2 ^ (8 * n)
  pub same : (k : ℕ) → k < 8 * n → nat_eq (bit_at word (8 * n - 1 - k)) 1 ≡ bit_in order octets (8 * at + k)

pub has_none : (order : Order) (octets : List ℕ) (at : ℕ) → HasOctets order octets at 0 0
has_none order octets at = record { small = omega arith; same = λ k h. absurd (omega arith) }

below_next : (word octet n : ℕ) → word < 2 ^ (8 * n) → octet < 256 → word * 2 ^ 8 + octet < 2 ^ (8 * (n + 1))
below_next word octet n small byte =
    let e : 2 ^ (8 * (n + 1)) ≡ 2 ^ (8 * n) * 2 ^ 8 = ap (λ k. 2 ^ k) (omega arith) ∙ pow-add 2 (8 * n) 8 in
    omega (arith, e, small, byte)

-- the octet is one with its first bit the highest
abbrev pub IsHighest : Order → List ℕ → ℕ → ℕ → Type 0
IsHighest order octets at octet = (k : ℕ) → k < 8 → nat_eq (bit_at octet (7 - k)) 1 ≡ bit_in order octets (8 * at + k)

cat_same : (order : Order) (octets : List ℕ) (at n word octet k : ℕ) → IsHighest order octets (at + n) octet → octet < 256
    → HasOctets order octets at n word → k < 8 * (n + 1) → nat_eq (bit_at (word * 2 ^ 8 + octet) (8 * (n + 1) - 1 - k)) 1 ≡ bit_in order
    octets (8 * at + k)
cat_same order octets at n word octet k is byte has h =
    elim (cases_lt k (8 * n)) [
      | inl early ↦
          let e : 8 * (n + 1) - 1 - k - 8 ≡ 8 * n - 1 - k = omega arith in
          ap (λ b. nat_eq b 1) (bit_at_cat_high word 8 octet (8 * (n + 1) - 1 - k) byte (omega arith) ∙ ap (bit_at word) e)
          ∙ has.same k early
      | inr late ↦
          let place : 8 * (n + 1) - 1 - k ≡ 7 - (k - 8 * n) = omega arith in
          let which : 8 * (at + n) + (k - 8 * n) ≡ 8 * at + k = omega arith in
          ap (λ b. nat_eq b 1) (bit_at_cat_low word 8 octet (8 * (n + 1) - 1 - k) (omega arith) ∙ ap (bit_at octet) place) ∙
          (is (k - 8 * n) (omega arith) ∙ ap (bit_in order octets) which)
    ]

pub next_octet : (order : Order) (octets : List ℕ) (at n word octet : ℕ) → IsHighest order octets (at + n) octet → octet < 256
    → HasOctets order octets at n word → HasOctets order octets at (n + 1) (word * 2 ^ 8 + octet)
next_octet order octets at n word octet is byte has =
    record { small = below_next word octet n has.small byte; same = λ k h. cat_same order octets at n word octet k is byte has h }

pub push_octet : (order : Order) (octets : List ℕ) (at n word octet : ℕ) → n < 8 → IsHighest order octets (at + n) octet → octet < 256
    → HasOctets order octets at n word → HasOctets order octets at (n + 1) (bit_or (word * 2 ^ 8 % 2 ^ 64) octet)
push_octet order octets at n word octet few is byte has =
    let e : bit_or (word * 2 ^ 8 % 2 ^ 64) octet ≡ word * 2 ^ 8 + octet = ap (λ (x : ℕ). bit_or x octet) (shl_whole word (8 * n) 8 64
    has.small (omega arith)) ∙ or_shifted word 8 octet byte in
    rw e (next_octet order octets at n word octet is byte has)

pub has_all : (order : Order) (octets : List ℕ) (at word : ℕ) → HasOctets order octets at 8 word → IsWordAt order octets (8 * at) word
has_all order octets at word has k h = has.same k h

msb_highest : (octets : List ℕ) (at : ℕ) → IsHighest MsbFirst octets at (get_or octets at 0)
msb_highest octets at k h =
    let which : at ≡ (8 * at + k) / 8 = omega arith in
    let within : 7 - k ≡ 7 - (8 * at + k) % 8 = omega arith in
    ap (λ b. nat_eq b 1) (ap (λ m. bit_at (get_or octets m 0) (7 - k)) which ∙ ap (bit_at (get_or octets ((8 * at + k) / 8) 0)) within)

-- eight octets in a row, the first the highest
pub be_word : (octets : List ℕ) (at : ℕ) → ((i : ℕ) → get_or octets i 0 < 256) → IsWordAt MsbFirst octets (8 * at) (from_be_bytes w64
    (get_or octets at 0 ∷ get_or octets (at + 1) 0 ∷ get_or octets (at + 2) 0 ∷ get_or octets (at + 3) 0 ∷ get_or octets (at + 4) 0 ∷ get_or
    octets (at + 5) 0 ∷ get_or octets (at + 6) 0 ∷ get_or octets (at + 7) 0 ∷ []))
be_word octets at small =
    let b : ℕ → ℕ = λ i. get_or octets (at + i) 0 in
    let step : (n word : ℕ) → HasOctets MsbFirst octets at n word → HasOctets MsbFirst octets at (n + 1) (word * 2 ^ 8 + b n) = λ n word
    has. next_octet MsbFirst octets at n word (b n) (msb_highest octets (at + n)) (small (at + n)) has in
    let first : at + 0 ≡ at = omega arith in
    let all = step 7 _ (step 6 _ (step 5 _ (step 4 _ (step 3 _ (step 2 _ (step 1 _ (step 0 _ (has_none MsbFirst octets at)))))))) in
    let e : (((((((0 * 2 ^ 8 + b 0) * 2 ^ 8 + b 1) * 2 ^ 8 + b 2) * 2 ^ 8 + b 3) * 2 ^ 8 + b 4) * 2 ^ 8 + b 5) * 2 ^ 8 + b 6) * 2 ^ 8 + b 7
    ≡ from_be_bytes w64 (b 0 ∷ b 1 ∷ b 2 ∷ b 3 ∷ b 4 ∷ b 5 ∷ b 6 ∷ b 7 ∷ []) = omega arith in
    rw (← ap (λ m. get_or octets m 0) first, ← e) (has_all MsbFirst octets at _ all)

-- ---- a word that begins within an octet

or_bit : (a b : ℕ) → a < 2 → b < 2 → nat_eq (max a b) 1 ≡ (nat_eq a 1 || nat_eq b 1)
or_bit zero zero p q = refl
or_bit zero (suc zero) p q = refl
or_bit (suc zero) zero p q = refl
or_bit (suc zero) (suc zero) p q = refl
or_bit zero (suc (suc b)) p q = absurd (omega arith)
or_bit (suc zero) (suc (suc b)) p q = absurd (omega arith)
or_bit (suc (suc a)) b p q = absurd (omega arith)

pub ored : (a b i : ℕ) → nat_eq (bit_at (bit_or a b) i) 1 ≡ (nat_eq (bit_at a i) 1 || nat_eq (bit_at b i) 1)
ored a b i = ap (λ n. nat_eq n 1) (bit_at_or a b i) ∙ or_bit (bit_at a i) (bit_at b i) (bit_at-lt a i) (bit_at-lt b i)

pub shifted : (order : Order) (octets : List ℕ) (at within word next : ℕ) → within < 8 → next < 256 → IsWordAt order octets (8 * at) word
    → IsHighest order octets (at + 8) next → IsWordAt order octets (8 * at + within) (bit_or (word * 2 ^ within % 2 ^ 64) (next / 2 ^ (8 -
    within)))
shifted order octets at within word next few byte is more k h =
    elim (cases_lt (k + within) 64) [
      | inl early ↦
          let back : 63 - k - within ≡ 63 - (k + within) = omega arith in
          let place : 8 * at + (k + within) ≡ 8 * at + within + k = omega arith in
          let one : bit_at (word * 2 ^ within % 2 ^ 64) (63 - k) ≡ bit_at word (63 - (k + within)) =
          bit_at_rest (word * 2 ^ within) 64 (63 - k) (omega arith) ∙ (bit_at_shl_high word within (63 - k) (omega arith)
          ∙ ap (bit_at word) back) in
          let none : bit_at (next / 2 ^ (8 - within)) (63 - k) ≡ 0 =
          bit_at_shr next (8 - within) (63 - k) ∙ bit_at_above next 8 (8 - within + (63 - k)) byte (omega arith) in
          let both : bit_at (bit_or (word * 2 ^ within % 2 ^ 64) (next / 2 ^ (8 - within))) (63 - k) ≡ bit_at word (63 - (k + within)) =
          omega (arith, bit_at_or (word * 2 ^ within % 2 ^ 64) (next / 2 ^ (8 - within)) (63 - k), one, none) in
          ap (λ b. nat_eq b 1) both ∙ (is (k + within) early ∙ ap (bit_in order octets) place)
      | inr late ↦
          let back : 8 - within + (63 - k) ≡ 7 - (k + within - 64) = omega arith in
          let place : 8 * (at + 8) + (k + within - 64) ≡ 8 * at + within + k = omega arith in
          let none : bit_at (word * 2 ^ within % 2 ^ 64) (63 - k) ≡ 0 =
          bit_at_rest (word * 2 ^ within) 64 (63 - k) (omega arith) ∙ bit_at_shl_low word within (63 - k) (omega arith) in
          let one : bit_at (next / 2 ^ (8 - within)) (63 - k) ≡ bit_at next (7 - (k + within - 64)) =
          bit_at_shr next (8 - within) (63 - k) ∙ ap (bit_at next) back in
          let both : bit_at (bit_or (word * 2 ^ within % 2 ^ 64) (next / 2 ^ (8 - within))) (63 - k) ≡ bit_at next (7 - (k + within - 64)) =
          omega (arith, bit_at_or (word * 2 ^ within % 2 ^ 64) (next / 2 ^ (8 - within)) (63 - k), one, none) in
          ap (λ b. nat_eq b 1) both ∙ (more (k + within - 64) (omega arith) ∙ ap (bit_in order octets) place)
    ]

-- bits of a word that was moved to the left
pub moved : (order : Order) (octets : List ℕ) (at within word k : ℕ) → IsWordAt order octets (8 * at) word → within + k < 64
    → bit_of_word (word * 2 ^ within % 2 ^ 64) k ≡ bit_in order octets (8 * at + within + k)
moved order octets at within word k is h =
    let back : 63 - k - within ≡ 63 - (within + k) = omega arith in
    let place : 8 * at + (within + k) ≡ 8 * at + within + k = omega arith in
    ap (λ b. nat_eq b 1) (bit_at_rest (word * 2 ^ within) 64 (63 - k) (omega arith) ∙ (bit_at_shl_high word within (63 - k) (omega arith)
    ∙ ap (bit_at word) back)) ∙ (is (within + k) h ∙ ap (bit_in order octets) place)

pub highest_from : (order : Order) (octets : List ℕ) (at octet : ℕ) → ((k : ℕ) → k < 8 → bit_at octet (7 - k) ≡ bit_at (get_or octets at 0)
    (place_in order k)) → IsHighest order octets at octet
highest_from order octets at octet turned k h =
    let which : at ≡ (8 * at + k) / 8 = omega arith in
    ap (λ b. nat_eq b 1) (turned k h ∙
    (ap (bit_at (get_or octets at 0)) (place_in-same order k (8 * at + k) (omega arith)) ∙ ap (λ m. bit_at (get_or octets m 0)
    (place_in order (8 * at + k))) which))

pub highest_past : (order : Order) (octets : List ℕ) (at : ℕ) → length octets ≤ at → IsHighest order octets at 0
highest_past order octets at past k h =
    ap (λ b. nat_eq b 1) (bit_at-zero (7 - k)) ∙ sym (bit_in-past order octets (8 * at + k) (omega arith))

-- ---- a word's octets

be_at : (n q : ℕ) → q < 8 → get_or (to_be_bytes w64 n) q 0 ≡ n / 2 ^ (8 * (7 - q)) % 2 ^ 8
be_at n zero h = refl
be_at n (suc zero) h = refl
be_at n (suc (suc zero)) h = refl
be_at n (suc (suc (suc zero))) h = refl
be_at n (suc (suc (suc (suc zero)))) h = refl
be_at n (suc (suc (suc (suc (suc zero))))) h = refl
be_at n (suc (suc (suc (suc (suc (suc zero)))))) h = refl
be_at n (suc (suc (suc (suc (suc (suc (suc zero))))))) h = omega arith
be_at n (suc (suc (suc (suc (suc (suc (suc (suc q)))))))) h = absurd (omega arith)

-- a bit of an octet of a number
octet_bit : (n s place : ℕ) → place < 8 → bit_at (n / 2 ^ s % 2 ^ 8) place ≡ bit_at n (s + place)
octet_bit n s place h = bit_at_rest (n / 2 ^ s) 8 place h ∙ bit_at_shr n s place

pub be_octets : (word k : ℕ) → k < 64 → bit_of_word word k ≡ bit_in MsbFirst (to_be_bytes w64 word) k
be_octets word k h =
    let there : 8 * (7 - k / 8) + (7 - k % 8) ≡ 63 - k = omega arith in
    sym (ap (λ b. nat_eq b 1)
    (ap (λ x. bit_at x (7 - k % 8)) (be_at word (k / 8) (omega arith)) ∙
    (octet_bit word (8 * (7 - k / 8)) (7 - k % 8) (omega arith) ∙ ap (bit_at word) there)))

-- ---- octets that others are or'ed to

-- the bits of an octet from the lowest on are those from the highest on, turned
lowest_as_highest : (octets : List ℕ) (p : ℕ) → bit_in LsbFirst octets p ≡ bit_in MsbFirst octets (8 * (p / 8) + (7 - p % 8))
lowest_as_highest octets p =
    let which : p / 8 ≡ (8 * (p / 8) + (7 - p % 8)) / 8 = omega arith in
    let place : p % 8 ≡ 7 - (8 * (p / 8) + (7 - p % 8)) % 8 = omega arith in
    ap (λ m. nat_eq (bit_at (get_or octets m 0) (p % 8)) 1) which ∙
    ap (λ q. nat_eq (bit_at (get_or octets ((8 * (p / 8) + (7 - p % 8)) / 8) 0) q) 1) place

-- the octets of a number, each turned: the first bit of each is its lowest
turned_octets_are : (word : ℕ) (octets : List ℕ) → ((i : ℕ) → i < 8 → slice_index octets i ≡ turned_octet (slice_index (to_be_bytes w64
    word) i)) → (k : ℕ) → k < 64 → bit_of_word word k ≡ bit_in LsbFirst octets k
turned_octets_are word octets turned k h =
    let octet : ℕ = slice_index (to_be_bytes w64 word) (k / 8) in
    let back : 7 - (7 - k % 8) ≡ k % 8 = omega arith in
    be_octets word k h ∙ sym (ap (λ b. nat_eq b 1)
    (ap (λ x. bit_at x (k % 8)) (turned (k / 8) (omega arith)) ∙
    (ap (bit_at (turned_octet octet)) (sym back) ∙ bit_at_turned8 octet (7 - k % 8) (omega arith))))

pub turned_bits : (word : ℕ) (octets : List ℕ) (turned : ℕ) → ((i : ℕ) → i < 8 → slice_index octets i ≡ turned_octet (slice_index
    (to_be_bytes w64 word) i)) → IsWordAt MsbFirst octets (8 * 0) turned → (k : ℕ) → k < 64
    → bit_of_word turned k ≡ bit_of_word word (8 * (k / 8) + (7 - k % 8))
turned_bits word octets turned each is k h =
    let back : 8 * 0 + k ≡ 8 * ((8 * (k / 8) + (7 - k % 8)) / 8) + (7 - (8 * (k / 8) + (7 - k % 8)) % 8) = omega arith in
    is k h ∙
    (ap (bit_in MsbFirst octets) back ∙
    (sym (lowest_as_highest octets (8 * (k / 8) + (7 - k % 8))) ∙
    sym (turned_octets_are word octets each (8 * (k / 8) + (7 - k % 8)) (omega arith))))

-- a word whose octets are in an order of bits
abbrev pub IsInOrder : Order → ℕ → ℕ → Type 0
IsInOrder order word turned = (k : ℕ) → k < 64 → bit_of_word turned k ≡ bit_of_word word (8 * (k / 8) + (7 - place_in order k))

pub kept_in_order : (word : ℕ) → IsInOrder MsbFirst word word
kept_in_order word k h =
    let there : k ≡ 8 * (k / 8) + (7 - (7 - k % 8)) = omega arith in
    ap (bit_of_word word) there

-- the octets of a word in an order of bits hold its bits
pub octets_in_order : (order : Order) (word turned k : ℕ) → IsInOrder order word turned → k < 64
    → bit_in order (to_be_bytes w64 turned) k ≡ bit_of_word word k
octets_in_order MsbFirst word turned k same h =
    let there : 8 * (k / 8) + (7 - (7 - k % 8)) ≡ k = omega arith in
    sym (be_octets turned k h) ∙ (same k h ∙ ap (bit_of_word word) there)
octets_in_order LsbFirst word turned k same h =
    let there : 8 * (k / 8) + (7 - k % 8) < 64 = omega arith in
    let back : 8 * ((8 * (k / 8) + (7 - k % 8)) / 8) + (7 - (8 * (k / 8) + (7 - k % 8)) % 8) ≡ k = omega arith in
    lowest_as_highest (to_be_bytes w64 turned) k ∙
    (sym (be_octets turned (8 * (k / 8) + (7 - k % 8)) there) ∙
    (same (8 * (k / 8) + (7 - k % 8)) there ∙ ap (bit_of_word word) back))

-- the bits of eight octets, in either order
pub in_order_word : (order : Order) (octets : List ℕ) (at word turned : ℕ) → IsWordAt MsbFirst octets (8 * at) word
    → IsInOrder order word turned → IsWordAt order octets (8 * at) turned
in_order_word MsbFirst octets at word turned is same k h =
    let there : 8 * (k / 8) + (7 - (7 - k % 8)) ≡ k = omega arith in
    same k h ∙ (ap (bit_of_word word) there ∙ is k h)
in_order_word LsbFirst octets at word turned is same k h =
    let there : 8 * at + (8 * (k / 8) + (7 - k % 8)) ≡ 8 * ((8 * at + k) / 8) + (7 - (8 * at + k) % 8) = omega arith in
    same k h ∙ (is (8 * (k / 8) + (7 - k % 8)) (omega arith) ∙ (ap (bit_in MsbFirst octets) there ∙ sym (lowest_as_highest octets (8 * at +
    k))))

-- ---- the first bits of a word

pub kept_inside : (word count k : ℕ) → count < 64 → k < count → bit_of_word (bit_and word (bit_not w64 ((2 ^ 64 - 1) / 2 ^ count))) k ≡
    bit_of_word word k
kept_inside word count k few h =
    let fits : (2 ^ 64 - 1) / 2 ^ count < 2 ^ 64 = omega arith in
    let none : bit_at ((2 ^ 64 - 1) / 2 ^ count) (63 - k) ≡ 0 = ap (λ m. bit_at m (63 - k)) (ones_shr 64 count (omega arith))
    ∙ bit_at_ones_above (64 - count) (63 - k) (omega arith) in
    let kept : bit_at (bit_and word (bit_not w64 ((2 ^ 64 - 1) / 2 ^ count))) (63 - k) ≡ bit_at word (63 - k) =
    omega (
      arith,
      bit_at_and word (bit_not w64 ((2 ^ 64 - 1) / 2 ^ count)) (63 - k),
      bit_at_not w64 ((2 ^ 64 - 1) / 2 ^ count) (63 - k) fits
          (omega arith),
      none,
      bit_at-lt word (63 - k),
    ) in
    ap (λ b. nat_eq b 1) kept

pub kept_after : (word count k : ℕ) → count < 64 → count ≤ k → k < 64 → bit_of_word (bit_and word (bit_not w64 ((2 ^ 64 - 1) / 2 ^ count)))
    k ≡ false
kept_after word count k few low h =
    let fits : (2 ^ 64 - 1) / 2 ^ count < 2 ^ 64 = omega arith in
    let one : bit_at ((2 ^ 64 - 1) / 2 ^ count) (63 - k) ≡ 1 = ap (λ m. bit_at m (63 - k)) (ones_shr 64 count (omega arith))
    ∙ bit_at_ones (64 - count) (63 - k) (omega arith) in
    let none : bit_at (bit_and word (bit_not w64 ((2 ^ 64 - 1) / 2 ^ count))) (63 - k) ≡ 0 =
    omega (
      arith,
      bit_at_and word (bit_not w64 ((2 ^ 64 - 1) / 2 ^ count)) (63 - k),
      bit_at_not w64 ((2 ^ 64 - 1) / 2 ^ count) (63 - k) fits
          (omega arith),
      one,
    ) in
    ap (λ b. nat_eq b 1) none

-- a word of 1 bits
pub bit_of_all : (k : ℕ) → k < 64 → bit_of_word (2 ^ 64 - 1) k ≡ true
bit_of_all k h = ap (λ b. nat_eq b 1) (bit_at_ones 64 (63 - k) (omega arith))
