-- Bits as numbers, and bits filled with 0 bits.
use Rattle.std.proofs.Common.{ℕ, zero, suc, ◌≡◌, ◌+◌, ◌-◌, ◌*◌, ◌/◌, ◌%◌, ◌^◌, ◌<◌, ◌≤◌, ◌⊎◌, inl, inr, Bool, true, false, List, [], ◌∷◌}
use Rattle.std.proofs.Common.{◌++◌, length, replicate, drop, get_or, nat_eq, refl, ap, sym, ◌∙◌, arith, zero-add, eq-eqb}
use mathlib.Core.Bool.{beq}
use Rattle.std.specs.Int.{bit_at}
use Rattle.std.proofs.Math.Nat.{div-div-eq-div-mul, div-eq_of_lt, suc-add}
use Rattle.std.proofs.lemmas.Nat.{pow-add, div-mul-add, div_below, mul-le, pow_pos}
use Rattle.std.proofs.lemmas.Nat.Bits.{bit_at-zero, bit_at_cat_low, bit_at-lt, same_from_bits_below}
use Rattle.std.proofs.lemmas.List.{length-drop, same_lists, get_or-drop, get_or_past}
use Rattle.std.proofs.lemmas.List.FromFn.{get_or-map-range_with_len, length-map-range_with_len}
use Rattle.std.proofs.lemmas.Bool.{and_parts, and_from, false≢true, cases_lt, cases_Bool, eqb-true}
use Rattle.raster.specs.declared.packed.Order.{Order}
use Rattle.raster.specs.Packed.{bit_in, bits_in, bits_of}
use Rattle.raster.specs.Words.{IsWordAt, number_bits}
use Rattle.raster.proofs.PackedLemmas.{length-bits_in, bit_in-past}
use Rattle.raster.proofs.WordLemmas.{bit_at_rest, bit_at_shl_high}
use Rattle.run_tables.specs.Numbers.{AreFirst, IsFirst64, number_text, first_bits}
use Rattle.run_tables.specs.Texts.{begins}

shifted : (n a b : ℕ) → bit_at (n / 2 ^ b) a ≡ bit_at n (a + b)
shifted n a b =
    let e : 2 ^ (a + b) ≡ 2 ^ b * 2 ^ a = ap (λ k. 2 ^ k) (omega arith) ∙ pow-add 2 b a in
    ap (λ m. m % 2) (div-div-eq-div-mul n (2 ^ b) (2 ^ a) ∙ ap (λ m. n / m) (sym e))

pub length-number_text : (count n : ℕ) → length (number_text count n) ≡ count
unfolding number_text
length-number_text count n = length-map-range_with_len (λ place. nat_eq (bit_at n (count - 1 - place)) 1) 0 count

pub number_at : (count n k : ℕ) (d : Bool) → k < count → get_or (number_text count n) k d ≡ nat_eq (bit_at n (count - 1 - k)) 1
unfolding number_text
number_at count n k d h = get_or-map-range_with_len (λ place. nat_eq (bit_at n (count - 1 - place)) 1) 0 count k k d h (omega arith)

pub number_zero : (n : ℕ) → number_text 0 n ≡ []
unfolding number_text
number_zero n = refl

-- the highest bit, and then the others
pub number_more : (count n : ℕ) → number_text (suc count) n ≡ nat_eq (bit_at n count) 1 ∷ number_text count n
number_more count n =
    same_lists (number_text (suc count) n) (nat_eq (bit_at n count) 1 ∷ number_text count n) (length-number_text (suc count) n ∙ ap suc
    (sym
    (length-number_text count n))) (λ k d h. at k d (omega (arith, length-number_text (suc count) n)))
  where
    at : (k : ℕ) (d : Bool) → k < suc count
        → get_or (number_text (suc count) n) k d ≡ get_or (nat_eq (bit_at n count) 1 ∷ number_text count n) k d
    at zero d h =
        let e : suc count - 1 - 0 ≡ count = omega arith in
        number_at (suc count) n 0 d h ∙ ap (λ i. nat_eq (bit_at n i) 1) e
    at (suc k) d h =
        let e : suc count - 1 - suc k ≡ count - 1 - k = omega arith in
        number_at (suc count) n (suc k) d h ∙ (ap (λ i. nat_eq (bit_at n i) 1) e ∙ sym (number_at count n k d (omega arith)))

-- the higher bits, and then the lower ones
pub number_split : (a b n : ℕ) → number_text (a + b) n ≡ number_text a (n / 2 ^ b) ++ number_text b n
number_split zero b n = rw (zero-add b, number_zero (n / 2 ^ b)) refl
number_split (suc a) b n =
    rw (suc-add a b, number_more (a + b) n, number_more a (n / 2 ^ b), shifted n a b, number_split a b n) refl

pub number_none : (count : ℕ) → number_text count 0 ≡ replicate count false
number_none zero = number_zero 0
number_none (suc count) = rw (number_more count 0, bit_at-zero count, number_none count) refl

-- a number with no bit from one on begins with 0 bits
pub number_zeros : (a b n : ℕ) → n < 2 ^ b → number_text (a + b) n ≡ replicate a false ++ number_text b n
number_zeros a b n h =
    let none : n / 2 ^ b ≡ 0 = div-eq_of_lt h in
    number_split a b n ∙ ap (λ l. l ++ number_text b n) (ap (number_text a) none ∙ number_none a)

pub length-first_bits : (count : ℕ) (x : List Bool) → length (first_bits count x) ≡ count
unfolding first_bits
length-first_bits zero x = refl
length-first_bits (suc count) [] = ap suc (length-first_bits count [])
length-first_bits (suc count) (b ∷ x) = ap suc (length-first_bits count x)

first_split : (a b : ℕ) (x : List Bool) → first_bits (a + b) x ≡ first_bits a x ++ first_bits b (drop a x)
unfolding first_bits
first_split zero b x = rw (zero-add b) refl
first_split (suc a) b [] = rw (suc-add a b, first_split a b []) (nothing a)
  where
    nothing : (a : ℕ) → false ∷ (first_bits a [] ++ first_bits b (drop a [])) ≡ false ∷ (first_bits a [] ++ first_bits b [])
    nothing zero = refl
    nothing (suc a) = refl
first_split (suc a) b (y ∷ x) = rw (suc-add a b) (ap (λ l. y ∷ l) (first_split a b x))

-- what begins the bits begins them filled with 0 bits, if it is no longer
pub begins_filled : (word x : List Bool) (count : ℕ) → length word ≤ count → begins word x ≡ true → begins word (first_bits count x) ≡
    true
unfolding first_bits
begins_filled [] x count h e = refl
begins_filled (w ∷ word) x zero h e = absurd (omega arith)
begins_filled (w ∷ word) [] (suc count) h e = absurd (false≢true e)
begins_filled (w ∷ word) (y ∷ x) (suc count) h e =
    let parts = and_parts (beq y w) (begins word x) e in
    and_from (beq y w) (begins word (first_bits count x)) parts.0 (begins_filled word x count (omega arith) parts.1)

-- what begins the bits filled with 0 bits begins them, if it is no longer than they are
pub begins_unfilled : (word x : List Bool) (count : ℕ) → length word ≤ count → length word ≤ length x
    → begins word (first_bits count x) ≡ true → begins word x ≡ true
unfolding first_bits
begins_unfilled [] x count h l e = refl
begins_unfilled (w ∷ word) x zero h l e = absurd (omega arith)
begins_unfilled (w ∷ word) [] (suc count) h l e = absurd (omega arith)
begins_unfilled (w ∷ word) (y ∷ x) (suc count) h l e =
    let parts = and_parts (beq y w) (begins word (first_bits count x)) e in
    and_from (beq y w) (begins word x) parts.0 (begins_unfilled word x count (omega arith) (omega arith) parts.1)

-- what begins bits is no longer than they are
pub begins_within : (word x : List Bool) → begins word x ≡ true → length word ≤ length x
begins_within [] x e = omega arith
begins_within (w ∷ word) [] e = absurd (false≢true e)
begins_within (w ∷ word) (y ∷ x) e =
    let rest = begins_within word x (and_parts (beq y w) (begins word x) e).1 in
    omega (arith, rest)

-- the bits of one number and then those of another are the bits of one number
pub number_append : (a b high low : ℕ) → low < 2 ^ b → number_text (a + b) (high * 2 ^ b + low) ≡ number_text a high ++ number_text b low
number_append a b high low h =
    number_split a b (high * 2 ^ b + low) ∙ (ap (λ n. number_text a n ++ number_text b (high * 2 ^ b + low)) (div-mul-add high (2 ^ b)
    low h)
    ∙ ap (λ l. number_text a high ++ l) (lower b b (high) low (omega arith)))
  where
    lower : (count b high low : ℕ) → count ≤ b → number_text count (high * 2 ^ b + low) ≡ number_text count low
    lower zero b high low h = number_zero (high * 2 ^ b + low) ∙ sym (number_zero low)
    lower (suc count) b high low h =
        rw (
          number_more count (high * 2 ^ b + low),
          number_more count low,
          bit_at_cat_low high b low count (omega arith),
          lower count b high low
              (omega arith),
        ) refl

-- so many bits more, and the number that they are
pub joined_below : (a b high low : ℕ) → high < 2 ^ a → low < 2 ^ b → high * 2 ^ b + low < 2 ^ (a + b)
joined_below a b high low h l =
    let k : ℕ = 2 ^ b in
    let top : (high + 1) * k ≤ 2 ^ a * k = mul-le (high + 1) k (2 ^ a) k (omega arith) (omega arith) in
    let whole : 2 ^ (a + b) ≡ 2 ^ a * k = pow-add 2 a b in
    let one : (high + 1) * k ≡ high * k + k = omega arith in
    omega arith

-- a number is the text that writes it
pub number_same : (count a b : ℕ) → a < 2 ^ count → b < 2 ^ count → number_text count a ≡ number_text count b → a ≡ b
number_same count a b ha hb e = same_from_bits_below count a b ha hb (λ i h.
    let back : count - 1 - (count - 1 - i) ≡ i = omega arith in
    let within : count - 1 - i < count = omega arith in
    let equal : nat_eq (bit_at a i) 1 ≡ nat_eq (bit_at b i) 1 = rw back at (sym (number_at count a (count - 1 - i) false within) ∙ (ap
    (λ l.
    get_or l (count - 1 - i) false) e ∙ number_at count b (count - 1 - i) false within)) in
    same_bit (bit_at a i) (bit_at b i) (bit_at-lt a i) (bit_at-lt b i) equal)
  where
    same_bit : (x y : ℕ) → x < 2 → y < 2 → nat_eq x 1 ≡ nat_eq y 1 → x ≡ y
    same_bit zero zero hx hy e = refl
    same_bit zero (suc zero) hx hy e = absurd (false≢true e)
    same_bit (suc zero) zero hx hy e = absurd (false≢true (sym e))
    same_bit (suc zero) (suc zero) hx hy e = refl
    same_bit (suc (suc x)) y hx hy e = absurd (omega arith)
    same_bit zero (suc (suc y)) hx hy e = absurd (omega arith)
    same_bit (suc zero) (suc (suc y)) hx hy e = absurd (omega arith)

first_at : (count : ℕ) (x : List Bool) (k : ℕ) (d : Bool) → k < count → get_or (first_bits count x) k d ≡ get_or x k false
unfolding first_bits
first_at zero x k d h = absurd (omega arith)
first_at (suc count) [] zero d h = refl
first_at (suc count) [] (suc k) d h = first_at count [] k d (omega arith)
first_at (suc count) (b ∷ x) zero d h = refl
first_at (suc count) (b ∷ x) (suc k) d h = first_at count x k d (omega arith)

-- so many first bits of a number are the bits that they are
pub front_first : (a b count : ℕ) (x : List Bool) (word : ℕ) → a + b ≡ 64 → a ≤ count → AreFirst count x word
    → number_text a (word / 2 ^ b) ≡ first_bits a x
front_first a b count x word sum few is =
    same_lists (number_text a (word / 2 ^ b)) (first_bits a x) (length-number_text a (word / 2 ^ b) ∙ sym (length-first_bits a x)) (λ k d h.
    let within : k < a = omega (arith, h, length-number_text a (word / 2 ^ b)) in
    let place : a - 1 - k + b ≡ 63 - k = omega arith in
    number_at a (word / 2 ^ b) k d within ∙ (ap (λ n. nat_eq n 1) (shifted word (a - 1 - k) b ∙ ap (bit_at word) place) ∙
    (is k (omega arith) ∙ sym (first_at a x k d within))))

-- a number whose bits were moved to the left
pub front_moved : (s count : ℕ) (x : List Bool) (word : ℕ) → s ≤ count → count ≤ 64 → AreFirst count x word
    → AreFirst (count - s) (drop s x) (word * 2 ^ s % 2 ^ 64)
front_moved s count x word few most is k h =
    let back : 63 - k - s ≡ 63 - (s + k) = omega arith in
    ap (λ b. nat_eq b 1) (bit_at_rest (word * 2 ^ s) 64 (63 - k) (omega arith) ∙ (bit_at_shl_high word s (63 - k) (omega arith) ∙ ap (bit_at
    word) back)) ∙ (is (s + k) (omega arith) ∙ sym (get_or-drop s x k false))

-- how many bits of octets are left
pub length-rest : (order : Order) (octets : List ℕ) (place : ℕ) → length (drop place (bits_of order octets)) ≡ 8 * length octets - place
length-rest order octets place = simp (length-drop, length-bits_in)

-- the same of a number whose 64 bits are all first bits
pub word_first : (a b : ℕ) (x : List Bool) (word : ℕ) → a + b ≡ 64 → IsFirst64 x word → number_text a (word / 2 ^ b) ≡ first_bits a x
word_first a b x word sum is = front_first a b 64 x word sum (omega arith) is

-- a bit of octets from a place on
pub bit_rest : (order : Order) (octets : List ℕ) (place k : ℕ)
    → bit_in order octets (place + k) ≡ get_or (drop place (bits_of order octets))
    k false
unfolding bits_in
bit_rest order octets place k = sym (get_or-drop place (bits_of order octets) k false ∙ at (cases_lt (place + k) (8 * length octets)))
  where
    at : (place + k < 8 * length octets) ⊎ (8 * length octets ≤ place + k)
        → get_or (bits_of order octets) (place + k) false ≡ bit_in order octets (place + k)
    at (inl lt) = get_or-map-range_with_len (λ i. bit_in order octets i) 0 (8 * length octets) (place + k) (place + k) false lt (omega
        arith)
    at (inr le) =
        let past : length (bits_of order octets) ≤ place + k = rw length-bits_in le in
        get_or_past (bits_of order octets) (place + k) false past ∙ sym (bit_in-past order octets (place + k) le)

-- the bits of octets from a place on
pub word_rest : (order : Order) (octets : List ℕ) (place word : ℕ) → IsWordAt order octets place word
    → IsFirst64 (drop place (bits_of order octets)) word
word_rest order octets place word is k h = is k h ∙ bit_rest order octets place k

-- a bit of a word that begins within an octet
pub word_front : (order : Order) (octets : List ℕ) (place within word k : ℕ) → ((i : ℕ) → within + i < 64 → nat_eq (bit_at word (63 - i)) 1
    ≡ bit_in order octets (place + i)) → within + k < 64 → nat_eq (bit_at word (63 - k)) 1 ≡ get_or (drop place (bits_of order octets)) k
    false
word_front order octets place within word k is h = is k h ∙ bit_rest order octets place k

begins_self : (x : List Bool) → begins x x ≡ true
begins_self [] = refl
begins_self (b ∷ x) = and_from (beq b b) (begins x x) (same b) (begins_self x)
  where
    same : (b : Bool) → beq b b ≡ true
    same true = refl
    same false = refl

begins_equal : (x y : List Bool) → begins x y ≡ true → length x ≡ length y → x ≡ y
begins_equal [] [] e l = refl
begins_equal [] (b ∷ y) e l = absurd (omega arith)
begins_equal (a ∷ x) [] e l = absurd (omega arith)
begins_equal (a ∷ x) (b ∷ y) e l =
    let parts = and_parts (beq b a) (begins x y) e in
    let rest : x ≡ y = begins_equal x y parts.1 (omega arith) in
    rw (same b a parts.0, rest) refl
  where
    same : (b a : Bool) → beq b a ≡ true → b ≡ a
    same true true e = refl
    same true false e = absurd (false≢true e)
    same false true e = absurd (false≢true e)
    same false false e = refl

-- where a number's text begins the bits, their first bits are that number
pub text_begins : (a b count : ℕ) (x : List Bool) (word value : ℕ) → a + b ≡ 64 → a ≤ count → word < 2 ^ 64 → value < 2 ^ a
    → AreFirst count x word
    → begins (number_text a value) x ≡ true → (a ≤ length x) × (word / 2 ^ b ≡ value)
text_begins a b count x word value sum enough fits small is e =
    let few : length (number_text a value) ≤ a = omega (arith, length-number_text a value) in
    let filled = begins_filled (number_text a value) x a few e in
    let equal = begins_equal (number_text a value) (first_bits a x) filled (length-number_text a value ∙ sym (length-first_bits a x)) in
    let pow : 2 ^ 64 ≡ 2 ^ a * 2 ^ b = ap (λ n. 2 ^ n) (sym sum) ∙ pow-add 2 a b in
    let below : word / 2 ^ b < 2 ^ a = div_below word (2 ^ b) (2 ^ a) (pow_pos b) (rw pow at fits) in (
      omega (arith, begins_within (number_text a value) x e, length-number_text a value),
      number_same a (word / 2 ^ b) value below small (front_first a b count x word sum enough is ∙ sym equal),
    )

-- and the other way round
pub begins_text : (a b count : ℕ) (x : List Bool) (word value : ℕ) → a + b ≡ 64 → a ≤ count → AreFirst count x word
    → a ≤ length x → word / 2 ^ b ≡ value
    → begins (number_text a value) x ≡ true
begins_text a b count x word value sum enough is fits e =
    let few : length (number_text a value) ≤ a = omega (arith, length-number_text a value) in
    let short : length (number_text a value) ≤ length x = omega (arith, length-number_text a value) in
    let equal : number_text a value ≡ first_bits a x = ap (number_text a) (sym e) ∙ front_first a b count x word sum enough is in
    begins_unfilled (number_text a value) x a few short (ap (λ l. begins (number_text a value) l) (sym equal) ∙ begins_self (number_text a
    value))

-- a longer text begins no bits
pub starts_past : (count value : ℕ) (x : List Bool) → length x < count → false ≡ begins (number_bits count value) x
unfolding number_text
starts_past count value x h = elim (cases_Bool (begins (number_text count value) x)) [
  | inl t ↦ absurd (omega (arith, begins_within (number_text count value) x t, length-number_text count value))
  | inr f ↦ sym f
]

-- a number's text begins the bits exactly where their first bits are the number
pub starts_same : (a b count : ℕ) (x : List Bool) (word value : ℕ) → a + b ≡ 64 → a ≤ count → word < 2 ^ 64 → value < 2 ^ a
    → AreFirst count x word
    → a ≤ length x → nat_eq (word / 2 ^ b) value ≡ begins (number_bits a value) x
unfolding number_text
starts_same a b count x word value sum enough fits small is within = elim (cases_Bool (begins (number_text a value) x)) [
  | inl t ↦ eq-eqb (word / 2 ^ b) value (text_begins a b count x word value sum enough fits small is t).1 ∙ sym t
  | inr f ↦ elim (cases_Bool (nat_eq (word / 2 ^ b) value)) [
    | inl same ↦ absurd (false≢true (sym f ∙ begins_text a b count x word value sum enough is within (eqb-true (word / 2 ^ b) value same)))
    | inr other ↦ other ∙ sym f
  ]
]
