-- Where EOLs end bits, from the last one to the first.
use Rattle.std.proofs.Common.{ℕ, zero, suc, ◌≡◌, ◌+◌, ◌<◌, ◌≤◌, ◌-◌, ◌*◌, Bool, true, false, List, [], ◌∷◌, ◌++◌}
use Rattle.std.proofs.Common.{length, take, replicate, min, Some, None, inl, inr, refl, ap, sym, ◌∙◌, subst, arith, append_assoc}
use Rattle.std.specs.Prelude.{◌⊎◌}
use Rattle.std.specs.List.{AllByRecursion}
use Rattle.std.proofs.lemmas.Bool.{false≢true, cases_lt}
use Rattle.std.proofs.lemmas.List.{append-nil, replicate_more, same_from_push, take_all, length_push}
use Rattle.raster.specs.declared.packed.Order.{Order}
use Rattle.raster.specs.Packed.{bit_in, bits_in}
use Rattle.raster.proofs.PackedLemmas.{bits_in_more, bits_in-none, length-bits_in, take-bits_in}
use Rattle.page_code.specs.OneDimension.Pages.{eol_word, eol_words}
use Rattle.page_files.specs.PageEnds.{EndsByRtc, FindsEol}

-- the bits end with this number of EOLs, the last of them first
pub EndsByEols : ℕ → List Bool → Type 0
EndsByEols zero x = Unit
EndsByEols (suc more) x =
    (front : List Bool) × (count : ℕ) × (11 ≤ count) × (x ≡ front ++ eol_word count) × EndsByEols more front

-- no bits, or a 1 is the last one
abbrev pub EndsInOne : List Bool → Type 0
EndsInOne x = (x ≡ []) ⊎ ((front : List Bool) × (x ≡ front ++ true ∷ []))

-- 0 bits at the end, one less
one_less : (x : List Bool) (n : ℕ) → x ++ replicate (suc n) false ≡ (x ++ replicate n false) ++ false ∷ []
one_less x n =
    let same : n + 1 ≡ suc n = omega arith in
    ap (λ (l : List Bool). x ++ l) (sym (replicate_more n false ∙ ap (λ (m : ℕ). replicate m false) same))
    ∙ sym (append_assoc x (replicate n false) (false ∷ []))

-- a list with a last element isn't empty
no_last : (x : List Bool) (b : Bool) → ◌≡◌ {A = List Bool} (x ++ b ∷ []) [] → ⊥
no_last x b e = omega (arith, ap length e, length_push x b)

-- of two ways to take 0 bits from the end, the one that leaves a 1 takes them all
pub all_zeros : (y front : List Bool) (n c : ℕ) → EndsInOne y → front ++ replicate n false ≡ y ++ replicate c false
    → (d : ℕ) × (n + d ≡ c) × (front ≡ y ++ replicate d false)
all_zeros y front zero c one e = (c, omega arith, sym (append-nil front) ∙ e)
all_zeros y front (suc n) zero (inl none) e =
    absurd (no_last (front ++ replicate n false) false (sym (one_less front n) ∙ (e ∙ (append-nil y ∙ none))))
all_zeros y front (suc n) zero (inr one) e =
    let last = same_from_push (front ++ replicate n false) one.0 false true (sym (one_less front n) ∙ (e ∙ (append-nil y ∙ one.1))) in
    absurd (false≢true last.1)
all_zeros y front (suc n) (suc c) one e =
    let less = same_from_push (front ++ replicate n false) (y ++ replicate c false) false false
    (sym (one_less front n) ∙ (e ∙ one_less y c)) in
    let there = all_zeros y front n c one less.0 in
    (there.0, omega (arith, there.1), there.2)

-- 0 bits don't end in a 1
no_zeros : (y front : List Bool) (d : ℕ) → y ++ replicate d false ≡ front ++ true ∷ [] → d ≡ 0
no_zeros y front zero e = refl
no_zeros y front (suc d) e = absurd (false≢true (same_from_push (y ++ replicate d false) front false true (sym (one_less y d) ∙ e)).1)

-- an EOL is its 0 bits and then a 1
eol_push : (front : List Bool) (count : ℕ) → front ++ eol_word count ≡ (front ++ replicate count false) ++ true ∷ []
eol_push front count = sym (append_assoc front (replicate count false) (true ∷ []))

ends_in_one : (more : ℕ) (x : List Bool) → EndsByEols (suc more) x → (front : List Bool) × (x ≡ front ++ true ∷ [])
unfolding EndsByEols
ends_in_one more x ends = (ends.0 ++ replicate ends.1 false, ends.3 ∙ eol_push ends.0 ends.1)

-- the EOLs before the last one
pub before_last : (more : ℕ) (x y : List Bool) (c : ℕ) → EndsInOne y → x ≡ y ++ eol_word c → EndsByEols (suc more) x
    → (11 ≤ c) × EndsByEols more y
unfolding EndsByEols
before_last more x y c one split ends =
    let less = same_from_push (ends.0 ++ replicate ends.1 false) (y ++ replicate c false) true true
    (sym (eol_push ends.0 ends.1) ∙ (sym ends.3 ∙ (split ∙ eol_push y c))) in
    let there = all_zeros y ends.0 ends.1 c one less.0 in
    (omega (arith, there.1, ends.2), rest more there.0 ends.4 there.2)
  where
    rest : (m d : ℕ) → EndsByEols m ends.0 → ends.0 ≡ y ++ replicate d false → EndsByEols m y
    rest zero d is e = tt
    rest (suc m) d is e =
        let last = ends_in_one m ends.0 is in
        let none : d ≡ 0 = no_zeros y last.0 d (sym e ∙ last.1) in
        let same : ends.0 ≡ y = e ∙ (ap (λ (k : ℕ). y ++ replicate k false) none ∙ append-nil y) in
        subst (λ (l : List Bool). EndsByEols (suc m) l) same is

pub one_more : (more : ℕ) (x y : List Bool) (c : ℕ) → 11 ≤ c → x ≡ y ++ eol_word c → EndsByEols more y → EndsByEols (suc more) x
unfolding EndsByEols
one_more more x y c long split ends = (y, c, long, split, ends)

-- EOLs from the last and from the first

from_last : (k : ℕ) (x : List Bool) (after : List ℕ) → AllByRecursion (λ count. 11 ≤ count) after → EndsByEols k x
    → (front : List Bool) × (eols : List ℕ) × (length eols ≡ k + length after) × AllByRecursion (λ count. 11 ≤ count) eols
    × (x ++ eol_words after ≡ front ++ eol_words eols)
unfolding EndsByEols
from_last zero x after long ends = (x, after, omega arith, long, refl)
from_last (suc k) x after long ends =
    let there = from_last k ends.0 (ends.1 ∷ after) (ends.2, long) ends.4 in (
      there.0,
      there.1,
      omega (arith, there.2),
      there.3,
      ap (λ (l : List Bool). l ++ eol_words after) ends.3 ∙ (append_assoc ends.0 (eol_word ends.1) (eol_words after) ∙ there.4),
    )

from_first : (eols : List ℕ) (j : ℕ) (x : List Bool) → EndsByEols j x → AllByRecursion (λ count. 11 ≤ count) eols
    → EndsByEols (length eols + j) (x ++ eol_words eols)
unfolding EndsByEols
from_first [] j x ends long =
    let same : j ≡ 0 + j = omega arith in
    subst (λ (n : ℕ). EndsByEols n (x ++ [])) same (subst (λ (l : List Bool). EndsByEols j l) (sym (append-nil x)) ends)
from_first (count ∷ more) j x ends long =
    let there = from_first more (suc j) (x ++ eol_word count) (x, count, long.0, refl, ends) long.1 in
    let same : length more + suc j ≡ suc (length more) + j = omega arith in
    subst (λ (n : ℕ). EndsByEols n (x ++ (eol_word count ++ eol_words more))) same
    (subst (λ (l : List Bool). EndsByEols (length more + suc j) l) (append_assoc x (eol_word count) (eol_words more)) there)

-- RTC

pub is_rtc : (x y : List Bool) (fill : ℕ) → x ≡ y ++ replicate fill false → EndsByEols 6 y → EndsByRtc x
unfolding EndsByEols
is_rtc x y fill split ends =
    let there = from_last 6 y [] tt ends in
    record {
      front = there.0;
      eols = there.1;
      fill = fill;
      six = omega (arith, there.2);
      long = there.3;
      split = split ∙ (ap (λ (l : List Bool). l ++ replicate fill false) (sym (append-nil y) ∙ there.4)
          ∙ append_assoc there.0 (eol_words there.1) (replicate fill false));
    }

pub rtc_is : (x y : List Bool) (fill : ℕ) → EndsInOne y → x ≡ y ++ replicate fill false → EndsByRtc x → EndsByEols 6 y
unfolding EndsByEols
rtc_is x y fill one split ends =
    let code : List Bool = ends.front ++ eol_words ends.eols in
    let same : length ends.eols + 0 ≡ 6 = omega (arith, ends.six) in
    let there : EndsByEols 6 code = subst (λ (n : ℕ). EndsByEols n code) same (from_first ends.eols 0 ends.front tt ends.long) in
    let zeros = all_zeros y code ends.fill fill one
    (append_assoc ends.front (eol_words ends.eols) (replicate ends.fill false) ∙ (sym ends.split ∙ split)) in
    let last = ends_in_one 5 code there in
    let none : zeros.0 ≡ 0 = no_zeros y last.0 zeros.0 (sym zeros.2 ∙ last.1) in
    subst (λ (l : List Bool). EndsByEols 6 l) (zeros.2 ∙ (ap (λ (k : ℕ). y ++ replicate k false) none ∙ append-nil y)) there

-- Bits in octets

module _ (order : Order) (octets : List ℕ) where
  next_bit : (n : ℕ) (bit : Bool) → bit_in order octets n ≡ bit → bits_in order octets (n + 1) ≡ bits_in order octets n ++ bit ∷ []
  next_bit n bit is = bits_in_more order octets octets n bit (λ k h. refl) is

  pub last_bit : (n : ℕ) (bit : Bool) → 0 < n → bit_in order octets (n - 1) ≡ bit
      → bits_in order octets n ≡ bits_in order octets (n - 1) ++ bit ∷ []
  last_bit n bit some is =
      let same : n - 1 + 1 ≡ n = omega arith in
      ap (bits_in order octets) (sym same) ∙ next_bit (n - 1) bit is

  pub ends_one : (n : ℕ) → (0 < n → bit_in order octets (n - 1) ≡ true) → EndsInOne (bits_in order octets n)
  ends_one zero one = inl (bits_in-none order octets)
  ends_one (suc n) one =
      let some : 0 < suc n = omega arith in
      inr (bits_in order octets (suc n - 1), last_bit (suc n) true some (one some))

  -- one 0 bit more is taken from the end
  pub zero_more : (end place : ℕ) → place ≤ end → 0 < place → bit_in order octets (place - 1) ≡ false
      → bits_in order octets end ≡ bits_in order octets place ++ replicate (end - place) false
      → bits_in order octets end ≡ bits_in order octets (place - 1) ++ replicate (end - (place - 1)) false
  zero_more end place within some is split =
      let front : List Bool = bits_in order octets (place - 1) in
      let count : suc (end - place) ≡ end - (place - 1) = omega arith in
      split ∙ (ap (λ (l : List Bool). l ++ replicate (end - place) false) (last_bit place false some is)
      ∙ (append_assoc front (false ∷ []) (replicate (end - place) false) ∙ ap (λ (n : ℕ). front ++ replicate n false) count))

  pub no_zero : (end : ℕ) → bits_in order octets end ≡ bits_in order octets end ++ replicate (end - end) false
  no_zero end =
      let same : 0 ≡ end - end = omega arith in
      sym (append-nil (bits_in order octets end)) ∙ ap (λ (n : ℕ). bits_in order octets end ++ replicate n false) same

  -- no EOL is at the end of no bits, nor where the last bit is 0 or few are before it
  pub none_at_start : (end : ℕ) → end ≡ 0 → FindsEol order octets end None
  none_at_start end none front count long split =
      no_last (front ++ replicate count false) true
      (sym (eol_push front count) ∙ (sym split ∙ (ap (bits_in order octets) none ∙ bits_in-none order octets)))

  pub none_at_zero : (end : ℕ) → 0 < end → bit_in order octets (end - 1) ≡ false → FindsEol order octets end None
  none_at_zero end some is front count long split =
      let last = same_from_push (bits_in order octets (end - 1)) (front ++ replicate count false) false true
      (sym (last_bit end false some is) ∙ (split ∙ eol_push front count)) in
      false≢true last.1

  pub eol_split : (end start : ℕ) → 0 < end → bit_in order octets (end - 1) ≡ true
      → bits_in order octets (end - 1) ≡ bits_in order octets start ++ replicate (end - 1 - start) false
      → bits_in order octets end ≡ bits_in order octets start ++ eol_word (end - 1 - start)
  eol_split end start some is split =
      last_bit end true some is ∙ (ap (λ (l : List Bool). l ++ true ∷ []) split ∙
      sym (eol_push (bits_in order octets start) (end - 1 - start)))

  pub none_of_few : (end start : ℕ) → 0 < end → bit_in order octets (end - 1) ≡ true
      → bits_in order octets (end - 1) ≡ bits_in order octets start ++ replicate (end - 1 - start) false
      → (0 < start → bit_in order octets (start - 1) ≡ true) → end - 1 - start < 11 → FindsEol order octets end None
  unfolding EndsByEols
  none_of_few end start some is split one few front count long ends =
      let there = before_last 0 (bits_in order octets end) (bits_in order octets start) (end - 1 - start) (ends_one start one)
      (eol_split end start some is split) (front, count, long, ends, tt) in
      omega (arith, there.0, few)

  -- one EOL less
  pub fewer : (more end start : ℕ) → FindsEol order octets end (Some start) → EndsByEols (suc more) (bits_in order octets end)
      → EndsByEols more (bits_in order octets start)
  fewer more end start found ends = (before_last more (bits_in order octets end) (bits_in order octets start) (end - 1 - start)
      (ends_one start found.2) found.1 ends).1

  pub one_before : (more end start : ℕ) → FindsEol order octets end (Some start) → EndsByEols more (bits_in order octets start)
      → EndsByEols (suc more) (bits_in order octets end)
  one_before more end start found ends =
      one_more more (bits_in order octets end) (bits_in order octets start) (end - 1 - start) (omega (arith, found.0)) found.1 ends

  pub not_one : (more end : ℕ) → FindsEol order octets end None → EndsByEols (suc more) (bits_in order octets end) → ⊥
  unfolding EndsByEols
  not_one more end none ends = none ends.0 ends.1 ends.2 ends.3

  -- the first bits of all
  pub first_bits : (n m : ℕ) → take n (bits_in order octets m) ≡ bits_in order octets (min n m)
  first_bits n m = elim (cases_lt n m) [
    | inl h ↦
        let same : n ≡ min n m = omega arith in
        take-bits_in order octets n m (omega arith) ∙ ap (bits_in order octets) same
    | inr h ↦
        let same : m ≡ min n m = omega arith in
        let past : length (bits_in order octets m) ≤ n = rw length-bits_in (omega arith) in
        take_all n (bits_in order octets m) past ∙ ap (bits_in order octets) same
  ]

  -- the bits without the 0 bits at their end
  module _ (bits end code : ℕ) (is : end ≡ min bits (8 * length octets))
      (split : bits_in order octets end ≡ bits_in order octets code ++ replicate (end - code) false) where
    first_are : take bits (bits_in order octets (8 * length octets)) ≡ bits_in order octets code ++ replicate (end - code) false
    first_are = first_bits bits (8 * length octets) ∙ (ap (bits_in order octets) (sym is) ∙ split)

    pub rtc_found : EndsByEols 6 (bits_in order octets code) → EndsByRtc (take bits (bits_in order octets (8 * length octets)))
    rtc_found ends = is_rtc (take bits (bits_in order octets (8 * length octets))) (bits_in order octets code) (end - code) first_are ends

    pub rtc_there : (0 < code → bit_in order octets (code - 1) ≡ true)
        → EndsByRtc (take bits (bits_in order octets (8 * length octets))) → EndsByEols 6 (bits_in order octets code)
    rtc_there one ends = rtc_is (take bits (bits_in order octets (8 * length octets))) (bits_in order octets code) (end - code)
        (ends_one code one) first_are ends

pub none_left : (x : List Bool) → EndsByEols 0 x
unfolding EndsByEols
none_left x = tt
