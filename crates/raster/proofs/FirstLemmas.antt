-- The first bit of octets that is another.
use Rattle.std.proofs.Common.{◌≡◌, ℕ, ◌+◌, ◌-◌, ◌*◌, ◌/◌, ◌%◌, ◌^◌, ◌<◌, ◌≤◌, Bool, true, false, List, sym, ap, ◌∙◌, nat_eq, arith, bit_and}
use Rattle.std.proofs.Common.{zero, suc, w8, w64, inl, inr}
use Rattle.std.specs.Prelude.{not}
use Rattle.std.specs.Int.{bit_at, bit_not, leading_zeros}
use Rattle.std.proofs.lemmas.Nat.{leading_length}
use Rattle.std.proofs.lemmas.Nat.Bits.{bit_at_cat_high, bit_at_above, bit_at_and, bit_at_ones, bit_at_ones_above, bit_at_not, bit_at-lt}
use Rattle.std.proofs.lemmas.Nat.Bits.{ones_shr}
use Rattle.std.proofs.lemmas.Bool.{cases_lt}
use Rattle.raster.specs.Packed.{bit_in}
use Rattle.std.proofs.Common.{get_or, take, drop, min}
use Rattle.std.proofs.lemmas.List.{get_or-take, get_or-drop}
use Rattle.raster.proofs.PackedLemmas.{place_in-same}
use Rattle.raster.specs.Words.{IsWordAt, bit_of_word, IsFirstInWord, IsFirstOther}
use Rattle.raster.specs.declared.packed.Order.TheVariants.{MsbFirst}

-- ---- the first 1

top_bit : (n j : ℕ) → 2 ^ j ≤ n → n < 2 ^ (suc j) → bit_at n j ≡ 1
top_bit n j low high =
    let r : ℕ = n - 2 ^ j in
    let split : n ≡ 1 * 2 ^ j + r = omega (arith, low) in
    let twice : 2 ^ (suc j) ≡ 2 * 2 ^ j = omega arith in
    let few : r < 2 ^ j = omega (arith, low, high, twice) in
    let none : j - j ≡ 0 = omega arith in
    ap (λ x. bit_at x j) split ∙ (bit_at_cat_high 1 j r j few (omega arith) ∙ ap (bit_at 1) none)

-- how many 0 bits there are before the first 1 of a number of this many bits
pub record FirstOne (w n c : ℕ) : Type 0 where
  pub high : c ≤ w
  pub zeros : (k : ℕ) → k < c → bit_at n (w - 1 - k) ≡ 0
  pub one : c < w → bit_at n (w - 1 - c) ≡ 1

first_one_by : (w n c m : ℕ) → c + m ≡ w → n < 2 ^ m → 2 ^ m ≤ 2 * n + 1 → FirstOne w n c
first_one_by w n c zero e lt le = record {
  high = omega arith;
  zeros = λ k h. bit_at_above n 0 (w - 1 - k) lt (omega arith);
  one = λ h. absurd (omega arith);
}
first_one_by w n c (suc j) e lt le =
    let place : w - 1 - c ≡ j = omega arith in
    let twice : 2 ^ (suc j) ≡ 2 * 2 ^ j = omega arith in
    record {
      high = omega arith;
      zeros = λ k h. bit_at_above n (suc j) (w - 1 - k) lt (omega arith);
      one = λ h. ap (bit_at n) place ∙ top_bit n j (omega (arith, le, twice)) lt;
    }

pub first_one : (n : ℕ) → n < 2 ^ 64 → FirstOne 64 n (leading_zeros w64 n)
first_one n fits = let (m, e, lt, le) = leading_length 64 n fits in first_one_by 64 n (leading_zeros w64 n) m e lt le

pub first_one_of_octet : (n : ℕ) → n < 2 ^ 8 → FirstOne 8 n (leading_zeros w8 n)
first_one_of_octet n fits = let (m, e, lt, le) = leading_length 8 n fits in first_one_by 8 n (leading_zeros w8 n) m e lt le

-- ---- the first bit that is another

-- a 0 stands for the bit, and a 1 for the other
pub record Turns (bit : Bool) (word turned : ℕ) : Type 0 where
  pub fits : turned < 2 ^ 64
  pub same : (i : ℕ) → i < 64 → bit_at turned i ≡ 0 → nat_eq (bit_at word i) 1 ≡ bit
  pub differs : (i : ℕ) → i < 64 → bit_at turned i ≡ 1 → nat_eq (bit_at word i) 1 ≡ not bit

pub turns_not : (word : ℕ) → word < 2 ^ 64 → Turns true word (bit_not w64 word)
turns_not word fits = record {
  fits = omega arith;
  same = λ i h e. let one : bit_at word i ≡ 1 = omega (
    arith,
    bit_at_not w64 word i fits h,
    e,
    bit_at-lt word i,
  ) in ap (λ b. nat_eq b 1) one;
  differs = λ i h e. let none : bit_at word i ≡ 0 = omega (
    arith,
    bit_at_not w64 word i fits h,
    e,
    bit_at-lt word i,
  ) in ap (λ b. nat_eq b 1) none;
}

pub turns_as_is : (word : ℕ) → word < 2 ^ 64 → Turns false word word
turns_as_is word fits = record {
  fits = fits;
  same = λ i h e. ap (λ b. nat_eq b 1) e;
  differs = λ i h e. ap (λ b. nat_eq b 1) e;
}

masked_low : (turned from i : ℕ) → from < 64 → i < 64 - from → bit_at (bit_and turned ((2 ^ 64 - 1) / 2 ^ from)) i ≡ bit_at turned i
masked_low turned from i few h =
    let one : bit_at ((2 ^ 64 - 1) / 2 ^ from) i ≡ 1 = ap (λ m. bit_at m i) (ones_shr 64 from (omega arith))
    ∙ bit_at_ones (64 - from) i h in
    omega (arith, bit_at_and turned ((2 ^ 64 - 1) / 2 ^ from) i, one, bit_at-lt turned i)

masked_high : (turned from i : ℕ) → from < 64 → 64 - from ≤ i → bit_at (bit_and turned ((2 ^ 64 - 1) / 2 ^ from)) i ≡ 0
masked_high turned from i few h =
    let none : bit_at ((2 ^ 64 - 1) / 2 ^ from) i ≡ 0 = ap (λ m. bit_at m i) (ones_shr 64 from (omega arith))
    ∙ bit_at_ones_above (64 - from) i h in
    omega (arith, bit_at_and turned ((2 ^ 64 - 1) / 2 ^ from) i, none)

not_before : (turned from c : ℕ) → from < 64 → FirstOne 64 (bit_and turned ((2 ^ 64 - 1) / 2 ^ from)) c → from ≤ c
not_before turned from c few first =
    elim (cases_lt c from) [
      | inl h ↦ absurd (omega (arith, first.one (omega arith), masked_high turned from (63 - c) few (omega arith)))
      | inr h ↦ h
    ]

pub first_in : (word from turned c : ℕ) (bit : Bool) → from < 64 → Turns bit word turned → FirstOne 64 (bit_and turned ((2 ^ 64 - 1) / 2 ^
    from)) c → IsFirstInWord word from bit c
first_in word from turned c bit few turns first = record {
  low = not_before turned from c few first;
  high = first.high;
  before = λ k low h.
      let inside : k < 64 = omega (arith, first.high) in
      turns.same (63 - k) (omega arith) (sym (masked_low turned from (63 - k) few (omega arith)) ∙ first.zeros k h);
  hit = λ h.
      let low : from ≤ c = not_before turned from c few first in
      turns.differs (63 - c) (omega arith) (sym (masked_low turned from (63 - c) few (omega arith)) ∙ first.one h);
}

-- ---- over octets

pub word_of_place : (octets : List ℕ) (at word k : ℕ) → IsWordAt MsbFirst octets (8 * (at / 8)) word → at - at % 8 ≤ k
    → k < at - at % 8 + 64 → bit_in MsbFirst octets k ≡ bit_of_word word (k - (at - at % 8))
word_of_place octets at word k is low high =
    let back : k ≡ 8 * (at / 8) + (k - (at - at % 8)) = omega arith in
    ap (bit_in MsbFirst octets) back ∙ sym (is (k - (at - at % 8)) (omega arith))

-- the first place in the word that holds a place
pub word_first : (octets : List ℕ) (from word place : ℕ) (bit : Bool) → IsWordAt MsbFirst octets (8 * (from / 8)) word
    → IsFirstInWord word (from % 8) bit place → IsFirstOther octets from (from - from % 8 + 64) bit (from - from % 8 + place)
word_first octets from word place bit is first = record {
  low = omega (arith, first.low);
  high = omega (arith, first.high);
  before = λ k low h. word_of_place octets from word k is (omega arith) (omega (arith, first.high))
      ∙ first.before (k - (from - from % 8)) (omega arith) (omega arith);
  hit = λ h.
      let back : from - from % 8 + place - (from - from % 8) ≡ place = omega arith in
      word_of_place octets from word (from - from % 8 + place) is (omega arith) h ∙ (ap (bit_of_word word) back ∙ first.hit (omega arith));
}

-- a place that was found, or a nearer end
pub first_or_end : (octets : List ℕ) (from whole end place found : ℕ) (bit : Bool) → IsFirstOther octets from whole bit place
    → place < whole → from ≤ end → found ≡ min place end → IsFirstOther octets from end bit found
first_or_end octets from whole end place found bit first some order e = record {
  low = omega (arith, first.low);
  high = omega arith;
  before = λ k low h. first.before k low (omega arith);
  hit = λ h. let same : place ≡ found = omega arith in ap (bit_in MsbFirst octets) (sym same) ∙ first.hit some;
}

-- none up to a place, and then from there on
pub first_after : (octets : List ℕ) (from mid end place : ℕ) (bit : Bool) → from ≤ mid → ((k : ℕ) → from ≤ k → k < mid
    → bit_in MsbFirst octets k ≡ bit) → IsFirstOther octets mid end bit place → IsFirstOther octets from end bit place
first_after octets from mid end place bit order none first = record {
  low = omega (arith, first.low);
  high = first.high;
  before = λ k low h.
      elim (cases_lt k mid) [
        | inl early ↦ none k low early
        | inr late ↦ first.before k late h
      ];
  hit = first.hit;
}

-- none up to the end
pub first_end : (octets : List ℕ) (from whole end : ℕ) (bit : Bool) → ((k : ℕ) → from ≤ k → k < whole → bit_in MsbFirst octets k ≡ bit)
    → from ≤ end → end ≤ whole → IsFirstOther octets from end bit end
first_end octets from whole end bit none order short = record {
  low = order;
  high = omega arith;
  before = λ k low h. none k low (omega arith);
  hit = λ h. absurd (omega arith);
}

-- a bit of octets that were taken from others
bit_in-piece : (octets : List ℕ) (at k : ℕ) → k < 256 → bit_in MsbFirst (take 32 (drop at octets)) k ≡ bit_in MsbFirst octets (8 * at + k)
bit_in-piece octets at k h =
    let which : at + k / 8 ≡ (8 * at + k) / 8 = omega arith in
    ap (λ (octet : ℕ). nat_eq (bit_at octet (7 - k % 8)) 1) (get_or-take 32 (drop at octets) (k / 8) 0 (omega arith)
    ∙ (get_or-drop at octets (k / 8) 0 ∙ ap (λ (i : ℕ). get_or octets i 0) which)) ∙
    ap (λ (p : ℕ). nat_eq (bit_at (get_or octets ((8 * at + k) / 8) 0) p) 1) (place_in-same MsbFirst k (8 * at + k) (omega arith))

pub piece_first : (octets block : List ℕ) (at place : ℕ) (bit : Bool) → block ≡ take 32 (drop at octets)
    → IsFirstOther block 0 256 bit place → IsFirstOther octets (8 * at) (8 * at + 8 * 32) bit (8 * at + place)
piece_first octets block at place bit is first = record {
  low = omega arith;
  high = omega (arith, first.high);
  before = λ k low h.
      let back : 8 * at + (k - 8 * at) ≡ k = omega arith in
      ap (bit_in MsbFirst octets) (sym back) ∙
      (sym (bit_in-piece octets at (k - 8 * at) (omega (arith, first.high))) ∙
      (ap (λ (xs : List ℕ). bit_in MsbFirst xs (k - 8 * at)) (sym is) ∙ first.before (k - 8 * at) (omega arith) (omega arith)));
  hit = λ h.
      sym (bit_in-piece octets at place (omega arith)) ∙
      (ap (λ (xs : List ℕ). bit_in MsbFirst xs place) (sym is) ∙ first.hit (omega arith));
}

-- the first place in a word that begins with an octet
pub word_piece : (octets : List ℕ) (at word place : ℕ) (bit : Bool) → IsWordAt MsbFirst octets (8 * at) word
    → IsFirstInWord word 0 bit place → IsFirstOther octets (8 * at) (8 * at + 8 * 8) bit (8 * at + place)
word_piece octets at word place bit is first = record {
  low = omega arith;
  high = omega (arith, first.high);
  before = λ k low h.
      let back : 8 * at + (k - 8 * at) ≡ k = omega arith in
      ap (bit_in MsbFirst octets) (sym back) ∙ (sym (is (k - 8 * at) (omega (arith, first.high)))
      ∙ first.before (k - 8 * at) (omega arith) (omega arith));
  hit = λ h. sym (is place (omega arith)) ∙ first.hit (omega arith);
}
