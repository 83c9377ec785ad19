-- Where pages begin that come after others.
use Rattle.std.proofs.Common.{ℕ, suc, ◌≡◌, ◌+◌, ◌-◌, ◌*◌, ◌/◌, ◌%◌, ◌<◌, ◌≤◌, Bool, true, List, [], ◌∷◌, ◌++◌, length, drop}
use Rattle.std.proofs.Common.{length-append, bit_and, w8, ◌^◌, Some, None, inl, inr, refl, ap, sym, ◌∙◌, subst, arith, append_assoc, drop-drop, get_or, set}
use Rattle.std.specs.Prelude.{◌⊎◌, nat_eq}
use Rattle.std.specs.Int.{bit_at, bit_not, div_ceil}
use Rattle.std.specs.List.{AllByRecursion}
use Rattle.std.proofs.lemmas.Bool.{cases_eq}
use Rattle.std.proofs.lemmas.List.{append-nil, drop_all, drop_at, get_or-drop, get_or-set_same, get_or-set_other, length-drop, length-set}
use Rattle.raster.specs.declared.packed.Order.{Order}
use Rattle.raster.specs.Packed.{bit_in, bits_of, place_in}
use Rattle.raster.proofs.PackedLemmas.{high_cut, high_kept, length-bits_in, low_cut, low_kept, place_in-same}
use Rattle.raster.specs.declared.coding.Coding.{Coding}
use Rattle.raster.specs.declared.coding.Coding.TheVariants.{OneDim, T6}
use Rattle.page_code.specs.OneDimension.Fronts.{zeros_before}
use Rattle.page_code.specs.OneDimension.Pages.{eol_word, eol_words}
use Rattle.page_code.proofs.OneDimension.ZerosBefore.{length-eol, none_zeros, zeros_split}
use Rattle.page_files.specs.LaterPages.{AreAfter, IsFrom, IsLater, IsLaterIn, IsLaterOneDim, NothingLeft, Passes}
use Rattle.page_files.specs.declared.options.PageForm.{PageForm}

-- EOLs were read from the bit `used` on up to a place, and the last of them begins without its fill at the bit `start`
pub record AfterEols (used : ℕ) (bits : List Bool) (place start : ℕ) : Type 0 where
  pub before : List ℕ
  pub last : ℕ
  pub long : AllByRecursion (λ count. 11 ≤ count) before
  pub long_last : 11 ≤ last
  pub split : drop used bits ≡ eol_words before ++ (eol_word last ++ drop place bits)
  pub start_is : start ≡ used + length (eol_words before) + (last - 11)
  pub place_is : place ≡ used + length (eol_words before) + (last + 1)

-- no EOL was read yet, and the next octet begins at the bit `start`; or some were
abbrev pub Standing : ℕ → List Bool → ℕ → ℕ → Type 0
Standing used bits place start = ((place ≡ used) × (start ≡ 8 * div_ceil used 8)) ⊎ AfterEols used bits place start

-- an EOL after others
eols_push : (before : List ℕ) (last : ℕ) → eol_words (before ++ last ∷ []) ≡ eol_words before ++ eol_word last
eols_push [] last = append-nil (eol_word last)
eols_push (count ∷ before) last =
    ap (λ (l : List Bool). eol_word count ++ l) (eols_push before last) ∙ sym (append_assoc (eol_word count) (eol_words before) (eol_word last))

long_push : (before : List ℕ) (last : ℕ) → AllByRecursion (λ count. 11 ≤ count) before → 11 ≤ last
    → AllByRecursion (λ count. 11 ≤ count) (before ++ last ∷ [])
long_push [] last long h = (h, tt)
long_push (count ∷ before) last long h = (long.0, long_push before last long.1 h)

-- the bits from a place on are an EOL and those after it
pub eol_there : (bits : List Bool) (place zeros : ℕ) → zeros_before (drop place bits) ≡ Some zeros
    → drop place bits ≡ eol_word zeros ++ drop (place + (zeros + 1)) bits
eol_there bits place zeros is =
    let there = zeros_split (drop place bits) zeros is in
    let rest : drop (place + (zeros + 1)) bits ≡ there.0 =
    sym (drop-drop (zeros + 1) place bits) ∙ (ap (λ (l : List Bool). drop (zeros + 1) l) there.1
    ∙ drop_at (eol_word zeros) there.0 (zeros + 1) (length-eol zeros)) in
    there.1 ∙ ap (λ (l : List Bool). eol_word zeros ++ l) (sym rest)

-- one EOL more
pub one_eol : (used : ℕ) (bits : List Bool) (place start zeros : ℕ) → Standing used bits place start
    → zeros_before (drop place bits) ≡ Some zeros → 11 ≤ zeros → Standing used bits (place + (zeros + 1)) (place + zeros - 11)
one_eol used bits place start zeros (inl (at, next)) is long = inr (record {
  before = [];
  last = zeros;
  long = tt;
  long_last = long;
  split = ap (λ (k : ℕ). drop k bits) (sym at) ∙ eol_there bits place zeros is;
  start_is = omega (arith, at, long);
  place_is = omega (arith, at);
})
one_eol used bits place start zeros (inr eols) is long = inr (record {
  before = eols.before ++ eols.last ∷ [];
  last = zeros;
  long = long_push eols.before eols.last eols.long eols.long_last;
  long_last = long;
  split = eols.split ∙ (ap (λ (l : List Bool). eol_words eols.before ++ (eol_word eols.last ++ l)) (eol_there bits place zeros is)
      ∙ (sym (append_assoc (eol_words eols.before) (eol_word eols.last) (eol_word zeros ++ drop (place + (zeros + 1)) bits))
      ∙ ap (λ (l : List Bool). l ++ (eol_word zeros ++ drop (place + (zeros + 1)) bits)) (sym (eols_push eols.before eols.last))));
  start_is = omega (arith, size, eols.place_is, long);
  place_is = omega (arith, size, eols.place_is);
})
  where
    size : length (eol_words (eols.before ++ eols.last ∷ [])) ≡ length (eol_words eols.before) + (eols.last + 1)
    size = ap length (eols_push eols.before eols.last) ∙ (length-append (eol_words eols.before) (eol_word eols.last)
        ∙ ap (λ (n : ℕ). length (eol_words eols.before) + n) (length-eol eols.last))

-- a page begins
pub page_there : (used : ℕ) (bits : List Bool) (place start zeros : ℕ) → Standing used bits place start
    → zeros_before (drop place bits) ≡ Some zeros → zeros < 11 → IsLaterOneDim used (drop used bits) (Some start)
page_there used bits place start zeros (inl (at, next)) is few =
    inr ((zeros, ap (λ (k : ℕ). zeros_before (drop k bits)) (sym at) ∙ is, few), next)
page_there used bits place start zeros (inr eols) is few = inl (record {
  before = eols.before;
  last = eols.last;
  rest = drop place bits;
  long = eols.long;
  long_last = eols.long_last;
  split = eols.split;
  code = (zeros, is, few);
  start_is = eols.start_is;
})

-- none does
pub nothing_there : (used : ℕ) (bits : List Bool) (place start : ℕ) → Standing used bits place start
    → zeros_before (drop place bits) ≡ None → IsLaterOneDim used (drop used bits) None
nothing_there used bits place start (inl (at, next)) is =
    ([], drop used bits, tt, refl, none_zeros (drop used bits) (ap (λ (k : ℕ). zeros_before (drop k bits)) (sym at) ∙ is))
nothing_there used bits place start (inr eols) is = (
  eols.before ++ eols.last ∷ [],
  drop place bits,
  long_push eols.before eols.last eols.long eols.long_last,
  eols.split ∙ (sym (append_assoc (eol_words eols.before) (eol_word eols.last) (drop place bits))
      ∙ ap (λ (l : List Bool). l ++ drop place bits) (sym (eols_push eols.before eols.last))),
  none_zeros (drop place bits) is,
)

-- nothing is left past the bits
pub none_past : (order : Order) (octets : List ℕ) (place : ℕ) → 8 * length octets ≤ place
    → zeros_before (drop place (bits_of order octets)) ≡ None
none_past order octets place past =
    let over : length (bits_of order octets) ≤ place = rw length-bits_in past in
    ap zeros_before (drop_all place (bits_of order octets) over)

pub nothing_past : (order : Order) (octets : List ℕ) (used : ℕ) → 8 * length octets < used
    → NothingLeft (drop used (bits_of order octets))
nothing_past order octets used past = (
  [],
  drop used (bits_of order octets),
  tt,
  refl,
  none_zeros (drop used (bits_of order octets))
      (none_past order octets used (omega arith)),
)

-- the first bits of an octet are cut off
pub first_cut_lsb : (octet count k : ℕ) → 0 < count → count < 8 → k < count
    → bit_at (bit_and octet (bit_not w8 ((2 ^ 8 - 1) / 2 ^ (8 - count)))) (k % 8) ≡ 0
first_cut_lsb octet count k some few h =
    let there = high_cut octet (8 - count) (7 - k) (omega arith) (omega arith) (omega arith) in
    let place : 7 - (7 - k) % 8 ≡ k % 8 = omega arith in
    ap (λ (n : ℕ). bit_at (bit_and octet (bit_not w8 ((2 ^ 8 - 1) / 2 ^ (8 - count)))) n) (sym place) ∙ there

pub last_kept_lsb : (octet count k : ℕ) → 0 < count → count < 8 → count ≤ k → k < 8
    → bit_at (bit_and octet (bit_not w8 ((2 ^ 8 - 1) / 2 ^ (8 - count)))) (k % 8) ≡ bit_at octet (k % 8)
last_kept_lsb octet count k some few low h =
    let there = high_kept octet (8 - count) (7 - k) (omega arith) (omega arith) in
    let place : 7 - (7 - k) % 8 ≡ k % 8 = omega arith in
    ap (λ (n : ℕ). bit_at (bit_and octet (bit_not w8 ((2 ^ 8 - 1) / 2 ^ (8 - count)))) n) (sym place)
    ∙ (there ∙ ap (λ (n : ℕ). bit_at octet n) place)

pub first_cut_msb : (octet count k : ℕ) → 0 < count → count < 8 → k < count
    → bit_at (bit_and octet ((2 ^ 8 - 1) / 2 ^ count)) (7 - k % 8) ≡ 0
first_cut_msb octet count k some few h =
    let there = low_cut octet (8 - count) (7 - k) (omega arith) (omega arith) (omega arith) in
    let place : (7 - k) % 8 ≡ 7 - k % 8 = omega arith in
    let size : 8 - (8 - count) ≡ count = omega arith in
    ap (λ (n : ℕ). bit_at (bit_and octet ((2 ^ 8 - 1) / 2 ^ n)) (7 - k % 8)) (sym size)
    ∙ (ap (λ (n : ℕ). bit_at (bit_and octet ((2 ^ 8 - 1) / 2 ^ (8 - (8 - count)))) n) (sym place) ∙ there)

pub last_kept_msb : (octet count k : ℕ) → 0 < count → count < 8 → count ≤ k → k < 8
    → bit_at (bit_and octet ((2 ^ 8 - 1) / 2 ^ count)) (7 - k % 8) ≡ bit_at octet (7 - k % 8)
last_kept_msb octet count k some few low h =
    let there = low_kept octet (8 - count) (7 - k) (omega arith) (omega arith) in
    let place : (7 - k) % 8 ≡ 7 - k % 8 = omega arith in
    let size : 8 - (8 - count) ≡ count = omega arith in
    ap (λ (n : ℕ). bit_at (bit_and octet ((2 ^ 8 - 1) / 2 ^ n)) (7 - k % 8)) (sym size)
    ∙ (ap (λ (n : ℕ). bit_at (bit_and octet ((2 ^ 8 - 1) / 2 ^ (8 - (8 - count)))) n) (sym place)
    ∙ (there ∙ ap (λ (n : ℕ). bit_at octet n) place))

-- one page more that comes before
pub one_after : (mends : Bool) (form : PageForm) (octets before later : List ℕ) (pages : ℕ) → AreAfter mends form octets pages before
    → Passes mends true form before later → AreAfter mends form octets (pages + 1) later
one_after mends form octets before later pages are after =
    let same : suc pages ≡ pages + 1 = omega arith in
    subst (λ (n : ℕ). AreAfter mends form octets n later) same (before, are, after)

-- the octets from one on

-- a bit of them
dropped_bit : (order : Order) (octets : List ℕ) (first k : ℕ) → bit_in order (drop first octets) k ≡ bit_in order octets (8 * first + k)
dropped_bit order octets first k =
    let octet : first + k / 8 ≡ (8 * first + k) / 8 = omega arith in
    let place : place_in order k ≡ place_in order (8 * first + k) = place_in-same order k (8 * first + k) (omega arith) in
    ap (λ (x : ℕ). nat_eq (bit_at x (place_in order k)) 1) (get_or-drop first octets (k / 8) 0 ∙ ap (λ (n : ℕ). get_or octets n 0) octet)
    ∙ ap (λ (p : ℕ). nat_eq (bit_at (get_or octets ((8 * first + k) / 8) 0) p) 1) place

dropped_size : (octets : List ℕ) (start : ℕ) → start ≤ 8 * length octets → length (drop (start / 8) octets) + start / 8 ≡ length octets
dropped_size octets start within = omega (arith, within, length-drop (start / 8) octets)

-- from a whole octet on
pub from_octet : (order : Order) (start : ℕ) (octets later : List ℕ) → start ≤ 8 * length octets → start % 8 ≡ 0
    → later ≡ drop (start / 8) octets → IsFrom order start octets later
from_octet order start octets later within whole is = record {
  size = ap (λ (l : List ℕ). length l + start / 8) is ∙ dropped_size octets start within;
  fill = λ k h. absurd (omega (arith, whole, h));
  same = λ k h. ap (λ (l : List ℕ). bit_in order l k) is ∙ dropped_bit order octets (start / 8) k;
}

-- from a bit within one on
pub from_within : (order : Order) (start : ℕ) (octets : List ℕ) (first : ℕ) → start ≤ 8 * length octets → 0 < start % 8
    → ((k : ℕ) → k < start % 8 → bit_at first (place_in order k) ≡ 0)
    → ((k : ℕ) → start % 8 ≤ k → k < 8 → bit_at first (place_in order k) ≡ bit_at (get_or (drop (start / 8) octets) 0 0) (place_in order k))
    → IsFrom order start octets (set (drop (start / 8) octets) 0 first)
from_within order start octets first within some inside after =
    let left : List ℕ = drop (start / 8) octets in
    let size : length left + start / 8 ≡ length octets = dropped_size octets start within in
    let there : 0 < length left = omega (arith, size, within, some) in
    record {
      size = ap (λ (n : ℕ). n + start / 8) (length-set left 0 first) ∙ size;
      fill = λ k h.
          let zero_is : k / 8 ≡ 0 = omega (arith, h) in
          rw (zero_is, get_or-set_same left 0 first 0 there, inside k h) refl;
      same = λ k h. elim (cases_eq (k / 8) 0) [
        | inl e ↦
            let bit : bit_in order (set left 0 first) k ≡ bit_in order left k =
            rw (e, get_or-set_same left 0 first 0 there, after k h (omega arith)) refl in
            bit ∙ dropped_bit order octets (start / 8) k
        | inr e ↦
            let bit : bit_in order (set left 0 first) k ≡ bit_in order left k = rw (get_or-set_other left 0 (k / 8) first 0 e) refl in
            bit ∙ dropped_bit order octets (start / 8) k
      ];
    }

-- no page comes after bits that end before its place
pub none_later : (form : PageForm) (octets : List ℕ) (used : ℕ) → 8 * length octets < used → IsLater form octets used None
none_later form octets used past = of_code form.coding
  where
    of_code : (coding : Coding) → IsLaterIn coding form.order octets used None
    of_code OneDim = nothing_past form.order octets used past
    of_code T6 = λ k from within. absurd (omega (arith, past, from, within))
