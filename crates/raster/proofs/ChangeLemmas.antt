-- Lists of places, and the changing positions of a row.
use Rattle.std.proofs.Common.{◌≡◌, ◌≢◌, ℕ, ◌+◌, ◌-◌, ◌*◌, ◌/◌, ◌%◌, ◌^◌, ◌<◌, ◌≤◌, Bool, true, false, List, [], ◌∷◌, ◌++◌, refl, sym, ◌&&◌}
use Rattle.std.proofs.Common.{ap, ◌∙◌, get_or, length, nat_eq, nat_lt, arith, bit_and, bit_or, bit_xor, zero, suc, inl, inr}
use Rattle.std.proofs.Common.{append_assoc, length-append}
use Rattle.std.specs.Int.{bit_at}
use Rattle.std.proofs.Common.{take}
use Rattle.std.proofs.lemmas.List.{append-nil, get_or_append_left, get_or-append_right, length-take-le, take-take, take_at}
use Rattle.std.proofs.lemmas.List.Elements.{Contains-append_left, Contains-append_right}
use Rattle.std.proofs.lemmas.Nat.Bits.{bit_at-lt, bit_at_above, bit_at_and, bit_at_or, bit_at_xor, bit_at_ones}
use Rattle.std.proofs.lemmas.Nat.Bits.{bit_at_ones_above, ones_shr, same_from_bits_below, bit_at-zero}
use Rattle.std.proofs.lemmas.Bool.{cases_lt, and_parts, lt-ltb, le-ltb, true≢false}
use Rattle.std.proofs.lemmas.Nat.{shr-shr, and_le_l, and_le_r, pow_pos}
use Rattle.raster.specs.Packed.{bit_in, bits_in}
use Rattle.raster.specs.Pixels.{color_of, colors}
use Rattle.raster.specs.Words.{IsWordAt, IsFirstInWord, bit_of_word}
use Rattle.raster.specs.Changes.{color_at, color_before, AppendsChanges, AreChanges, Lists, NextTurns, differ, bit_before}
use Rattle.raster.specs.Changes.{turns_at, turns_below}
use Rattle.raster.specs.declared.packed.Order.TheVariants.{MsbFirst}
use Rattle.raster.proofs.PackedLemmas.{slice_get-bits_in, length-bits_in}
use Rattle.raster.proofs.RowLemmas.{slice_get-colors, color_at_get, length-colors}
use Rattle.raster.proofs.WordLemmas.{bit_at_rest, bit_at_shl_low, bit_at_shl_high, bit_at_shr}

-- ---- lists of places

pub lists_none : (test : ℕ → Bool) (xs : List ℕ) (from end : ℕ) → ((k : ℕ) → from ≤ k → k < end → test k ≡ false)
    → Lists test xs xs from end
lists_none test xs from end none = record {
  places = [];
  appended = sym (append-nil xs);
  rising = λ i j lt h. absurd (omega arith);
  only = λ i h. absurd (omega arith);
  all = λ k low h e. absurd (contradicts (test k) (none k low h) e);
}
  where
    contradicts : (b : Bool) → b ≡ false → b ≡ true → ⊥
    contradicts true p q = cc
    contradicts false p q = cc

pub lists_one : (test : ℕ → Bool) (xs : List ℕ) (place : ℕ) → test place ≡ true → Lists test xs (xs ++ place ∷ []) place (place + 1)
lists_one test xs place is = record {
  places = place ∷ [];
  appended = refl;
  rising = λ i j lt h. absurd (omega arith);
  only = λ i h. the_one i h;
  all = λ k low h e. let same : place ≡ k = omega arith in (0, omega arith, same);
}
  where
    the_one : (i : ℕ) → i < length (place ∷ []) → (place ≤ get_or (place ∷ []) i 0) × (get_or (place ∷ []) i 0 < place + 1)
        × (test (get_or (place ∷ []) i 0) ≡ true)
    the_one zero h = (omega arith, omega arith, is)
    the_one (suc i) h = absurd (omega arith)

pub lists_join : (test : ℕ → Bool) (a b c : List ℕ) (from mid end : ℕ) → from ≤ mid → mid ≤ end → Lists test a b from mid
    → Lists test b c mid end → Lists test a c from end
lists_join test a b c from mid end p q one two = record {
  places = one.places ++ two.places;
  appended = two.appended ∙ (ap (λ (xs : List ℕ). xs ++ two.places) one.appended ∙ append_assoc a one.places two.places);
  rising = rising;
  only = only;
  all = λ k low h e.
      elim (cases_lt k mid) [
        | inl early ↦ Contains-append_left one.places two.places k (one.all k low early e)
        | inr late ↦ Contains-append_right one.places two.places k (two.all k late h e)
      ];
}
  where
    size : length (one.places ++ two.places) ≡ length one.places + length two.places
    size = length-append one.places two.places

    left : (i : ℕ) → i < length one.places → get_or (one.places ++ two.places) i 0 ≡ get_or one.places i 0
    left i h = get_or_append_left one.places two.places 0 i h

    right : (i : ℕ) → length one.places ≤ i → get_or (one.places ++ two.places) i 0 ≡ get_or two.places (i - length one.places) 0
    right i h = get_or-append_right one.places two.places (length one.places) i 0 refl h

    only : (i : ℕ) → i < length (one.places ++ two.places) → (from ≤ get_or (one.places ++ two.places) i 0)
        × (get_or (one.places ++ two.places) i 0 < end) × (test (get_or (one.places ++ two.places) i 0) ≡ true)
    only i h =
        elim (cases_lt i (length one.places)) [
          | inl early ↦ let is = one.only i early in rw (left i early) (is.0, omega (arith, is.1), is.2)
          | inr late ↦ let is = two.only (i - length one.places) (omega (arith, size)) in rw (right i late) (
            omega (arith, is.0),
            is.1,
            is.2,
          )
        ]

    rising : (i j : ℕ) → i < j → j < length (one.places ++ two.places) → get_or (one.places ++ two.places) i 0 < get_or (one.places ++
        two.places) j 0
    rising i j lt h =
        elim (cases_lt j (length one.places)) [
          | inl early ↦ rw (left i (omega arith), left j early) (one.rising i j lt early)
          | inr late ↦
              elim (cases_lt i (length one.places)) [
                | inl first ↦
                    let x = one.only i first in
                    let y = two.only (j - length one.places) (omega (arith, size)) in
                    rw (left i first, right j late) (omega (arith, x.1, y.0))
                | inr second ↦ rw (right i second, right j late) (two.rising (i - length one.places) (j - length one.places) (omega arith)
                    (omega (arith, size)))
              ]
        ]

pub lists_same : (s t : ℕ → Bool) (old new : List ℕ) (from end : ℕ) → ((k : ℕ) → from ≤ k → k < end → t k ≡ s k) → Lists s old new from end
    → Lists t old new from end
lists_same s t old new from end same lists = record {
  places = lists.places;
  appended = lists.appended;
  rising = lists.rising;
  only = λ i h. let is = lists.only i h in (is.0, is.1, same (get_or lists.places i 0) is.0 is.1 ∙ is.2);
  all = λ k low h e. lists.all k low h (sym (same k low h) ∙ e);
}

-- ---- one word

-- no place up to the first 1 bit
pub lists_gap : (word base at place : ℕ) (xs : List ℕ) → IsFirstInWord word at false place → Lists (λ k. bit_of_word word (k - base)) xs xs
    (base + at) (base + place)
lists_gap word base at place xs first =
    lists_none (λ k. bit_of_word word (k - base)) xs (base + at) (base + place) (λ k low h. first.before (k - base) (omega arith) (omega
    arith))

-- one place more
pub lists_more : (word base at place : ℕ) (old xs : List ℕ) → at ≤ 64 → place < 64 → IsFirstInWord word at false place
    → Lists (λ k. bit_of_word word (k - base)) old xs base (base + at) → Lists (λ k. bit_of_word word (k - base)) old (xs ++ (base + place)
    ∷ []) base (base + (place + 1))
lists_more word base at place old xs few inside first lists =
    let back : base + place - base ≡ place = omega arith in
    let next : base + place + 1 ≡ base + (place + 1) = omega arith in
    let found : bit_of_word word (base + place - base) ≡ true = ap (bit_of_word word) back ∙ first.hit inside in
    rw (← next)
    (lists_join (λ k. bit_of_word word (k - base)) old xs (xs ++ (base + place) ∷ []) base (base + place) (base + place + 1) (omega arith)
    (omega arith)
    (lists_join (λ k. bit_of_word word (k - base)) old xs xs base (base + at) (base + place) (omega arith) (omega (
      arith,
      first.low,
    )) lists (lists_gap word base at place xs first))
    (lists_one (λ k. bit_of_word word (k - base)) xs (base + place) found))

-- the places of the 1 bits up to one were appended, and what is left of the word are the bits from there on
pub record Pushed (word base rest : ℕ) (old out : List ℕ) : Type 0 where
  pub at : ℕ
  pub few : at ≤ 64
  pub fits : rest < 2 ^ 64
  pub none : (k : ℕ) → k < at → bit_of_word rest k ≡ false
  pub same : (k : ℕ) → at ≤ k → k < 64 → bit_of_word rest k ≡ bit_of_word word k
  pub listed : Lists (λ k. bit_of_word word (k - base)) old out base (base + at)

-- the bits of a word after a place
abbrev pub after_place : ℕ → ℕ → ℕ
after_place rest place = bit_and rest ((2 ^ 64 - 1) / 2 ^ place / 2 ^ 1)

after_mask : (place : ℕ) → place < 64 → (2 ^ 64 - 1) / 2 ^ place / 2 ^ 1 ≡ 2 ^ (63 - place) - 1
after_mask place h =
    let e : 64 - (place + 1) ≡ 63 - place = omega arith in
    shr-shr (2 ^ 64 - 1) place 1 ∙ (ones_shr 64 (place + 1) (omega arith) ∙ ap (λ m. 2 ^ m - 1) e)

after_none : (rest place k : ℕ) → place < 64 → k ≤ place → bit_of_word (after_place rest place) k ≡ false
after_none rest place k h low =
    let none : bit_at ((2 ^ 64 - 1) / 2 ^ place / 2 ^ 1) (63 - k) ≡ 0 = ap (λ m. bit_at m (63 - k)) (after_mask place h)
    ∙ bit_at_ones_above (63 - place) (63 - k) (omega arith) in
    let both : bit_at (after_place rest place) (63 - k) ≡ 0 = omega (
      arith,
      bit_at_and rest ((2 ^ 64 - 1) / 2 ^ place / 2 ^ 1) (63 - k),
      none,
    ) in
    ap (λ b. nat_eq b 1) both

after_same : (rest place k : ℕ) → place < k → k < 64 → bit_of_word (after_place rest place) k ≡ bit_of_word rest k
after_same rest place k low h =
    let one : bit_at ((2 ^ 64 - 1) / 2 ^ place / 2 ^ 1) (63 - k) ≡ 1 = ap (λ m. bit_at m (63 - k)) (after_mask place (omega arith))
    ∙ bit_at_ones (63 - place) (63 - k) (omega arith) in
    let both : bit_at (after_place rest place) (63 - k) ≡ bit_at rest (63 - k) = omega (
      arith,
      bit_at_and rest ((2 ^ 64 - 1) / 2 ^ place / 2 ^ 1) (63 - k),
      one,
      bit_at-lt rest (63 - k),
    ) in
    ap (λ b. nat_eq b 1) both

-- a word with no 1 bit is 0
no_ones : (rest : ℕ) → rest < 2 ^ 64 → ((k : ℕ) → k < 64 → bit_of_word rest k ≡ false) → rest ≡ 0
no_ones rest fits none =
    same_from_bits_below 64 rest 0 fits (omega arith) (λ i h. zero_bit i h ∙ sym (bit_at-zero i))
  where
    is_zero : (b : ℕ) → b < 2 → nat_eq b 1 ≡ false → b ≡ 0
    is_zero zero lt e = refl
    is_zero (suc zero) lt e = absurd (true≢false e)
    is_zero (suc (suc b)) lt e = absurd (omega arith)

    zero_bit : (i : ℕ) → i < 64 → bit_at rest i ≡ 0
    zero_bit i h =
        let back : 63 - (63 - i) ≡ i = omega arith in
        is_zero (bit_at rest i) (bit_at-lt rest i) (ap (λ j. nat_eq (bit_at rest j) 1) (sym back) ∙ none (63 - i) (omega arith))

pub found_one : (rest place : ℕ) → rest < 2 ^ 64 → 0 < rest → IsFirstInWord rest 0 false place → place < 64
found_one rest place fits some first =
    elim (cases_lt place 64) [
      | inl lt ↦ lt
      | inr le ↦ absurd (omega (arith, some, no_ones rest fits (λ k h. first.before k (omega arith) (omega arith))))
    ]

pub fewer : (rest place : ℕ) → place < 64 → IsFirstInWord rest 0 false place → after_place rest place < rest
fewer rest place inside first =
    elim (cases_lt rest (2 ^ (63 - place))) [
      | inl lt ↦ absurd (true≢false (sym (first.hit inside) ∙ ap (λ b. nat_eq b 1) (bit_at_above rest (63 - place) (63 - place) lt (omega
          arith))))
      | inr le ↦ omega (
        arith,
        le,
        after_mask place inside,
        pow_pos (63 - place),
        and_le_r rest ((2 ^ 64 - 1) / 2 ^ place / 2 ^ 1),
      )
    ]

first_of_rest : (word base rest place : ℕ) (old out : List ℕ) (pushed : Pushed word base rest old out) → place < 64
    → IsFirstInWord rest 0 false place → IsFirstInWord word pushed.at false place
first_of_rest word base rest place old out pushed inside first =
    elim (cases_lt place pushed.at) [
      | inl lt ↦ absurd (true≢false (sym (first.hit inside) ∙ pushed.none place lt))
      | inr le ↦ record {
        low = le;
        high = first.high;
        before = λ k low h. sym (pushed.same k low (omega arith)) ∙ first.before k (omega arith) h;
        hit = λ h. sym (pushed.same place le h) ∙ first.hit h;
      }
    ]

-- the same, with no more places than bits up to the one
pub record Put (word base rest : ℕ) (old out : List ℕ) (index next : ℕ) : Type 0 where
  pub pushed : Pushed word base rest old out
  pub few : next ≤ index + pushed.at

pub put_within : (word base rest place : ℕ) (old out : List ℕ) (index next : ℕ) → Put word base rest old out index next → place < 64
    → IsFirstInWord rest 0 false place → next < index + 64
put_within word base rest place old out index next put inside first =
    omega (arith, put.few, (first_of_rest word base rest place old out put.pushed inside first).low)

pub put_more : (word base rest place : ℕ) (old out : List ℕ) (index next : ℕ) → Put word base rest old out index next → place < 64
    → IsFirstInWord rest 0 false place → Put word base (after_place rest place) old (out ++ (base + place) ∷ []) index (next + 1)
put_more word base rest place old out index next put inside first =
    let in_word = first_of_rest word base rest place old out put.pushed inside first in
    record {
      pushed = record {
        at = place + 1;
        few = omega arith;
        fits = omega (arith, and_le_l rest ((2 ^ 64 - 1) / 2 ^ place / 2 ^ 1), put.pushed.fits);
        none = λ k h. after_none rest place k inside (omega arith);
        same = λ k low h. after_same rest place k (omega arith) h ∙ put.pushed.same k (omega (arith, in_word.low)) h;
        listed = lists_more word base put.pushed.at place old out put.pushed.few inside in_word put.pushed.listed;
      };
      few = omega (arith, put.few, in_word.low);
    }

pub put_all : (word base : ℕ) (old out : List ℕ) (index next : ℕ) → Put word base 0 old out index next → next ≤ index + 64
put_all word base old out index next put = omega (arith, put.few, put.pushed.few)

-- ---- bits that differ from the one before

differ_is : (a b : ℕ) → a < 2 → b < 2 → nat_eq ((a + b) % 2) 1 ≡ differ (nat_eq a 1) (nat_eq b 1)
differ_is zero zero p q = refl
differ_is zero (suc zero) p q = refl
differ_is (suc zero) zero p q = refl
differ_is (suc zero) (suc zero) p q = refl
differ_is zero (suc (suc b)) p q = absurd (omega arith)
differ_is (suc zero) (suc (suc b)) p q = absurd (omega arith)
differ_is (suc (suc a)) b p q = absurd (omega arith)

-- the word one place on, after a last bit
abbrev pub moved : ℕ → ℕ → ℕ
moved word last = bit_or (word / 2 ^ 1) (last * 2 ^ 63 % 2 ^ 64)

moved_bit : (octets : List ℕ) (at word last k : ℕ) → word < 2 ^ 64 → IsWordAt MsbFirst octets (8 * at) word
    → nat_eq (bit_at last 0) 1 ≡ bit_before octets (8 * at) → k < 64 → bit_of_word (moved word last) k ≡ bit_before octets (8 * at + k)
moved_bit octets at word last zero small is before h =
    let none : 8 * at + 0 ≡ 8 * at = omega arith in
    let high : bit_at (word / 2 ^ 1) 63 ≡ 0 = bit_at_shr word 1 63 ∙ bit_at_above word 64 64 small (omega arith) in
    let low : bit_at (last * 2 ^ 63 % 2 ^ 64) 63 ≡ bit_at last 0 = bit_at_rest (last * 2 ^ 63) 64 63 (omega arith)
    ∙ bit_at_shl_high last 63 63 (omega arith) in
    let both : bit_at (moved word last) 63 ≡ bit_at last 0 = omega (
      arith,
      bit_at_or (word / 2 ^ 1) (last * 2 ^ 63 % 2 ^ 64) 63,
      high,
      low,
    ) in
    ap (λ b. nat_eq b 1) both ∙ (before ∙ ap (bit_before octets) (sym none))
moved_bit octets at word last (suc k) small is before h =
    let next : suc (8 * at + k) ≡ 8 * at + suc k = omega arith in
    let place : 1 + (63 - suc k) ≡ 63 - k = omega arith in
    let high : bit_at (word / 2 ^ 1) (63 - suc k) ≡ bit_at word (63 - k) = bit_at_shr word 1 (63 - suc k) ∙ ap (bit_at word) place in
    let low : bit_at (last * 2 ^ 63 % 2 ^ 64) (63 - suc k) ≡ 0 = bit_at_rest (last * 2 ^ 63) 64 (63 - suc k) (omega arith)
    ∙ bit_at_shl_low last 63 (63 - suc k) (omega arith) in
    let both : bit_at (moved word last) (63 - suc k) ≡ bit_at word (63 - k) = omega (
      arith,
      bit_at_or (word / 2 ^ 1) (last * 2 ^ 63 % 2 ^ 64) (63 - suc k),
      high,
      low,
    ) in
    ap (λ b. nat_eq b 1) both ∙ (is k (omega arith) ∙ ap (bit_before octets) next)

pub turns_word : (octets : List ℕ) (at word last k : ℕ) → word < 2 ^ 64 → IsWordAt MsbFirst octets (8 * at) word
    → nat_eq (bit_at last 0) 1 ≡ bit_before octets (8 * at) → k < 64 → bit_of_word (bit_xor word (moved word last)) k ≡ turns_at octets (8 *
    at + k)
turns_word octets at word last k small is before h =
    ap (λ b. nat_eq b 1) (bit_at_xor word (moved word last) (63 - k)) ∙
    (differ_is (bit_at word (63 - k)) (bit_at (moved word last) (63 - k)) (bit_at-lt word (63 - k)) (bit_at-lt (moved word last) (63 - k)) ∙
    (ap (λ (a : Bool). differ a (bit_of_word (moved word last) k)) (is k h) ∙
    ap (differ (bit_in MsbFirst octets (8 * at + k))) (moved_bit octets at word last k small is before h)))

pub last_bit : (octets : List ℕ) (at : ℕ) → 0 < at → nat_eq (bit_at (bit_and (get_or octets (at - 1) 0) 1) 0) 1 ≡ bit_before octets (8 * at)
last_bit octets at some =
    let next : suc (8 * (at - 1) + 7) ≡ 8 * at = omega arith in
    let which : at - 1 ≡ (8 * (at - 1) + 7) / 8 = omega arith in
    let place : 0 ≡ 7 - (8 * (at - 1) + 7) % 8 = omega arith in
    let low : bit_at (bit_and (get_or octets (at - 1) 0) 1) 0 ≡ bit_at (get_or octets (at - 1) 0) 0 =
    omega (arith, bit_at_and (get_or octets (at - 1) 0) 1 0, bit_at-lt (get_or octets (at - 1) 0) 0) in
    ap (λ b. nat_eq b 1) (low ∙ (ap (λ (i : ℕ). bit_at (get_or octets i 0) 0) which ∙ ap (bit_at (get_or octets ((8 * (at - 1) + 7) / 8) 0))
    place)) ∙
    ap (bit_before octets) next

-- ---- a row

pub color_at_bits : (octets : List ℕ) (width k : ℕ) → k < width → color_at (colors (bits_in MsbFirst octets width)) k ≡ color_of
    (bit_in MsbFirst octets k)
color_at_bits octets width k h =
    sym (color_at_get (colors (bits_in MsbFirst octets width)) k (color_of (bit_in MsbFirst octets k))
    (slice_get-colors (bits_in MsbFirst octets width) k (bit_in MsbFirst octets k) (slice_get-bits_in MsbFirst octets width k h)))

color_before_bits : (octets : List ℕ) (width k : ℕ) → k < width → color_before (colors (bits_in MsbFirst octets width)) k ≡ color_of
    (bit_before octets k)
color_before_bits octets width zero h = refl
color_before_bits octets width (suc k) h = color_at_bits octets width k (omega arith)

differs : (a b : Bool) → differ a b ≡ true → color_of a ≢ color_of b
differs true true d e = cc
differs true false d e = cc
differs false true d e = cc
differs false false d e = cc

differs_back : (a b : Bool) → color_of a ≢ color_of b → differ a b ≡ true
differs_back true true ne = absurd (ne refl)
differs_back true false ne = refl
differs_back false true ne = refl
differs_back false false ne = absurd (ne refl)

pub are_changes : (octets : List ℕ) (width : ℕ) (places : List ℕ) → Lists (turns_below octets width) [] places 0 width
    → AreChanges (colors (bits_in MsbFirst octets width)) places
are_changes octets width places lists = rw lists.appended (record {
  rising = lists.rising;
  changing = λ i h.
      let is = lists.only i h in (
        rw (length-colors, length-bits_in) is.1,
        λ e. differs (bit_in MsbFirst octets (get_or lists.places i 0)) (bit_before octets (get_or lists.places i 0))
            ((and_parts (nat_lt (get_or lists.places i 0) width) (turns_at octets (get_or lists.places i 0)) is.2).1)
            (sym (color_at_bits octets width (get_or lists.places i 0) is.1) ∙ (e ∙ color_before_bits octets width (get_or lists.places i 0)
            is.1)),
      );
  all = λ k changing.
      let within : k < width = rw (length-colors, length-bits_in) at changing.0 in
      lists.all k (omega arith) within (test_is k within (λ e. changing.1 (color_at_bits octets width k within ∙ (e
      ∙ sym (color_before_bits octets width k within)))));
})
  where
    test_is : (k : ℕ) → k < width → color_of (bit_in MsbFirst octets k) ≢ color_of (bit_before octets k) → turns_below octets width k ≡ true
    test_is k h ne = rw (lt-ltb k width h) (differs_back (bit_in MsbFirst octets k) (bit_before octets k) ne)

pub appends_changes : (octets : List ℕ) (width : ℕ) (old new : List ℕ) → Lists (turns_below octets width) old new 0 width
    → AppendsChanges (colors (bits_in MsbFirst octets width)) old new
appends_changes octets width old new lists = (
  lists.places,
  lists.appended,
  are_changes octets width lists.places (record {
    places = lists.places;
    appended = refl;
    rising = lists.rising;
    only = lists.only;
    all = lists.all;
  }),
)

-- ---- the next word with a change

-- no bit past the end counts
pub past_end : (octets : List ℕ) (end k : ℕ) → end ≤ k → turns_below octets end k ≡ false
past_end octets end k le = rw (le-ltb k end le) refl

pub bit_of_none : (k : ℕ) → bit_of_word 0 k ≡ false
bit_of_none k = ap (λ b. nat_eq b 1) (bit_at-zero (63 - k))

-- no word where the end is reached
pub next_past : (octets : List ℕ) (end from : ℕ) → from % 8 ≡ 0 → end ≤ 8 * from → 8 * from ≤ end + 128 → NextTurns octets end from from 0
next_past octets end from aligned past few = record {
  low = omega arith;
  high = few;
  aligned = aligned;
  none = λ k low h. absurd (omega arith);
  word = λ k h. bit_of_none k ∙ sym (past_end octets end (8 * from + k) (omega arith));
}

-- the word from there on
pub next_here : (octets : List ℕ) (end from turned : ℕ) → from % 8 ≡ 0 → 8 * from < end → ((k : ℕ) → k < 64
    → bit_of_word turned k ≡ turns_below octets end (8 * from + k)) → NextTurns octets end from from turned
next_here octets end from turned aligned below is = record {
  low = omega arith;
  high = omega arith;
  aligned = aligned;
  none = λ k low h. absurd (omega arith);
  word = is;
}

-- a word with no change is passed over
pub next_on : (octets : List ℕ) (end from at turned : ℕ) → from % 8 ≡ 0 → ((k : ℕ) → k < 64 → bit_of_word 0 k ≡ turns_below octets end (8 *
    from + k)) → NextTurns octets end (from + 8) at turned → NextTurns octets end from at turned
next_on octets end from at turned aligned is next = record {
  low = omega (arith, next.low);
  high = next.high;
  aligned = next.aligned;
  none = λ k low h.
      elim (cases_lt k (8 * (from + 8))) [
        | inl lt ↦
            let back : 8 * from + (k - 8 * from) ≡ k = omega arith in
            ap (turns_below octets end) (sym back) ∙ (sym (is (k - 8 * from) (omega arith)) ∙ bit_of_none (k - 8 * from))
        | inr le ↦ next.none k le h
      ];
  word = next.word;
}

-- of a word whose bits all are as the bit before it none differs from the one before
alike_before : (octets : List ℕ) (at k : ℕ) (bit : Bool) → ((i : ℕ) → 8 * at ≤ i → i < 8 * at + 64 → bit_in MsbFirst octets i ≡ bit)
    → bit_before octets (8 * at) ≡ bit → k ≤ 64 → bit_before octets (8 * at + k) ≡ bit
alike_before octets at zero bit all before h = let here : 8 * at + 0 ≡ 8 * at = omega arith in rw here before
alike_before octets at (suc k) bit all before h =
    let next : 8 * at + suc k ≡ suc (8 * at + k) = omega arith in
    rw next (all (8 * at + k) (omega arith) (omega arith))

alike_turns : (octets : List ℕ) (end at k : ℕ) (bit : Bool) → ((i : ℕ) → 8 * at ≤ i → i < 8 * at + 64 → bit_in MsbFirst octets i ≡ bit)
    → bit_before octets (8 * at) ≡ bit → k < 64 → bit_of_word 0 k ≡ turns_below octets end (8 * at + k)
alike_turns octets end at k bit all before h =
    let here : bit_in MsbFirst octets (8 * at + k) ≡ bit = all (8 * at + k) (omega arith) (omega arith) in
    bit_of_none k ∙ sym (rw (here, alike_before octets at k bit all before (omega arith)) (none (nat_lt (8 * at + k) end) bit))
  where
    none : (b bit : Bool) → (b && differ bit bit) ≡ false
    none true true = refl
    none true false = refl
    none false bit = refl

-- a word of bits that all are as the one before them is passed over
pub alike_on : (octets : List ℕ) (end from next turned : ℕ) (bit : Bool) → from % 8 ≡ 0
    → ((i : ℕ) → 8 * from ≤ i → i < 8 * from + 64 → bit_in MsbFirst octets i ≡ bit) → bit_before octets (8 * from) ≡ bit
    → NextTurns octets end (from + 8) next turned → NextTurns octets end from next turned
alike_on octets end from next turned bit aligned all before later =
    next_on octets end from next turned aligned (λ k h. alike_turns octets end from k bit all before h) later

pub alike_after : (octets : List ℕ) (at : ℕ) (bit : Bool) → ((i : ℕ) → 8 * at ≤ i → i < 8 * at + 64 → bit_in MsbFirst octets i ≡ bit)
    → bit_before octets (8 * at) ≡ bit → bit_before octets (8 * (at + 8)) ≡ bit
alike_after octets at bit all before =
    let next : 8 * (at + 8) ≡ 8 * at + 64 = omega arith in
    rw next (alike_before octets at 64 bit all before (omega arith))

-- one word more, and those up to the next one
pub lists_word : (octets : List ℕ) (end at word next turned : ℕ) (old xs new : List ℕ) → ((k : ℕ) → k < 64
    → bit_of_word word k ≡ turns_below octets end (8 * at + k)) → Lists (turns_below octets end) old xs 0 (8 * at)
    → Lists (λ k. bit_of_word word (k - 8 * at)) xs new (8 * at) (8 * at + 64) → NextTurns octets end (at + 8) next turned
    → Lists (turns_below octets end) old new 0 (8 * next)
lists_word octets end at word next turned old xs new is before lists after =
    lists_join (turns_below octets end) old new new 0 (8 * at + 64) (8 * next) (omega arith) (omega (arith, after.low))
    (lists_join (turns_below octets end) old xs new 0 (8 * at) (8 * at + 64) (omega arith) (omega arith) before
    (lists_same (λ k. bit_of_word word (k - 8 * at)) (turns_below octets end) xs new (8 * at) (8 * at + 64) same lists))
    (lists_none (turns_below octets end) new (8 * at + 64) (8 * next) (λ k low h. after.none k (omega arith) h))
  where
    same : (k : ℕ) → 8 * at ≤ k → k < 8 * at + 64 → turns_below octets end k ≡ bit_of_word word (k - 8 * at)
    same k low h =
        let back : 8 * at + (k - 8 * at) ≡ k = omega arith in
        ap (turns_below octets end) (sym back) ∙ sym (is (k - 8 * at) (omega arith))

-- the places up to the end are all
pub lists_end : (octets : List ℕ) (end at : ℕ) (old new : List ℕ) → end ≤ at → Lists (turns_below octets end) old new 0 at
    → Lists (turns_below octets end) old new 0 end
lists_end octets end at old new past lists = record {
  places = lists.places;
  appended = lists.appended;
  rising = lists.rising;
  only = λ i h.
      let is = lists.only i h in (
        is.0,
        elim (cases_lt (get_or lists.places i 0) end) [
          | inl lt ↦ lt
          | inr le ↦ absurd (true≢false (sym is.2 ∙ past_end octets end (get_or lists.places i 0) le))
        ],
        is.2,
      );
  all = λ k low h e. lists.all k low (omega arith) e;
}

-- what stood in a list before its places is its front
pub front_kept : (old out places : List ℕ) (next : ℕ) → next ≤ length out → take next out ≡ old ++ places → take (length old) out ≡ old
front_kept old out places next within is =
    let long : length old ≤ next = omega (arith, sym (length-take-le next out within) ∙ (ap length is ∙ length-append old places)) in
    sym (take-take (length old) next out long) ∙ (ap (take (length old)) is ∙ take_at old places (length old) refl)
