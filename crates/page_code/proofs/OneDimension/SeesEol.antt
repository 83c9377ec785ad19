-- Reading an EOL, bit by bit.
use Rattle.std.proofs.Common.{[], ◌⊎◌, inl, inr, subst, ℕ, suc, ◌≡◌, ◌+◌, ◌-◌, ◌*◌, ◌<◌, ◌≤◌, Bool, true, false, List, ◌∷◌, length, drop}
use Rattle.std.proofs.Common.{Some, zero, None, refl, ap, sym, ◌∙◌, arith, drop-drop}
use Rattle.std.specs.Prelude.{Option, slice_index_or, ◌^◌, ◌%◌}
use Rattle.std.specs.Option.{option_map}
use Rattle.std.proofs.lemmas.List.{drop_more, drop_all, length-drop}
use Rattle.std.proofs.lemmas.Option.{get_or_from_slice_get}
use Rattle.raster.specs.declared.packed.Order.{Order}
use Rattle.raster.specs.Packed.{bit_in, bits_of}
use Rattle.raster.specs.Words.{IsFirstInWord, IsWordAt}
use Rattle.raster.proofs.PackedLemmas.{bit_in-past, length-bits_in, slice_get-bits_in}
use Rattle.std.proofs.lemmas.Bool.{cases_lt, true≢false}
use Rattle.page_code.specs.OneDimension.Fronts.{zeros_before, bits_of_eols, bits_of_five, CodeBegins}
use Rattle.page_code.specs.OneDimension.Reading.{SeesEol}
use Rattle.page_code.specs.declared.one_dim.eol.Eol.{Eol}
use Rattle.page_code.specs.declared.one_dim.eol.Eol.TheVariants.{Present, Absent, OnlyZeros}
use Rattle.run_tables.specs.Numbers.{AreFirst}
use Rattle.run_tables.proofs.NumberLemmas.{front_moved}
use Rattle.page_code.proofs.OneDimension.Reading.{five_eols, eols_go, eols_none, eols_other}

-- so many 0 bits more, where a 1 follows
abbrev pub more_zeros : ℕ → Option ℕ → Option ℕ
more_zeros count zeros = option_map (λ n. count + n) zeros

-- the bits from a place on
bits_there : (order : Order) (octets : List ℕ) (at : ℕ) → at < 8 * length octets
    → drop at (bits_of order octets) ≡ bit_in order octets at ∷ drop (at + 1) (bits_of order octets)
bits_there order octets at h =
    let within : at < length (bits_of order octets) = rw length-bits_in h in
    drop_more (bits_of order octets) at false within ∙
    ap (λ (b : Bool). b ∷ drop (at + 1) (bits_of order octets)) (get_or_from_slice_get (bits_of order octets) at (bit_in order octets
    at) false (slice_get-bits_in order octets (8 * length octets) at h))

-- a 0 bit goes on
pub zero_on : (order : Order) (octets : List ℕ) (place at : ℕ) → place ≤ at → at < 8 * length octets → bit_in order octets at ≡ false
    → zeros_before (drop place (bits_of order octets)) ≡ more_zeros (at - place) (zeros_before (drop at (bits_of order octets)))
    → zeros_before (drop place (bits_of order octets)) ≡ more_zeros (at + 1 - place) (zeros_before (drop (at + 1) (bits_of order octets)))
zero_on order octets place at past h bit before =
    before ∙ (ap (λ (x : List Bool). more_zeros (at - place) (zeros_before x)) (bits_there order octets at h ∙
    ap (λ (b : Bool). b ∷ drop (at + 1) (bits_of order octets)) bit) ∙ one (zeros_before (drop (at + 1) (bits_of order octets))))
  where
    one : (o : Option ℕ) → more_zeros (at - place) (option_map suc o) ≡ more_zeros (at + 1 - place) o
    one None = refl
    one (Some n) = let same : at - place + suc n ≡ at + 1 - place + n = omega arith in ap (λ (m : ℕ). Some m) same

-- a 1 ends them
pub one_ends : (order : Order) (octets : List ℕ) (place at : ℕ) → at < 8 * length octets → bit_in order octets at ≡ true
    → zeros_before (drop place (bits_of order octets)) ≡ more_zeros (at - place) (zeros_before (drop at (bits_of order octets)))
    → Some (at - place) ≡ zeros_before (drop place (bits_of order octets))
one_ends order octets place at h bit before =
    let same : at - place + 0 ≡ at - place = omega arith in
    sym (before ∙ (ap (λ (x : List Bool). more_zeros (at - place) (zeros_before x)) (bits_there order octets at h ∙
    ap (λ (b : Bool). b ∷ drop (at + 1) (bits_of order octets)) bit) ∙ ap (λ (m : ℕ). Some m) same))

-- the bits end
pub none_left : (order : Order) (octets : List ℕ) (place at : ℕ) → 8 * length octets ≤ at
    → zeros_before (drop place (bits_of order octets)) ≡ more_zeros (at - place) (zeros_before (drop at (bits_of order octets)))
    → None ≡ zeros_before (drop place (bits_of order octets))
none_left order octets place at h before =
    let past : length (bits_of order octets) ≤ at = rw length-bits_in h in
    sym (before ∙ ap (λ (x : List Bool). more_zeros (at - place) (zeros_before x)) (drop_all at (bits_of order octets) past))

-- so many 0 bits go on, the bits past the end too
pub zeros_on : (order : Order) (octets : List ℕ) (place at n : ℕ) → place ≤ at → ((k : ℕ) → k < n → bit_in order octets (at + k) ≡ false)
    → zeros_before (drop place (bits_of order octets)) ≡ more_zeros (at - place) (zeros_before (drop at (bits_of order octets)))
    → zeros_before (drop place (bits_of order octets)) ≡ more_zeros (at + n - place) (zeros_before (drop (at + n) (bits_of order octets)))
zeros_on order octets place at zero past bits before = let same : at + 0 ≡ at = omega arith in rw same before
zeros_on order octets place at (suc n) past bits before =
    let so_far = zeros_on order octets place at n past (λ k h. bits k (omega arith)) before in
    let next : at + suc n ≡ at + n + 1 = omega arith in
    rw next (elim (cases_lt (at + n) (8 * length octets)) [
      | inl h ↦ zero_on order octets place (at + n) (omega arith) h (bits n (omega arith)) so_far
      | inr h ↦
          let over : length (bits_of order octets) ≤ at + n + 1 = rw length-bits_in (omega arith) in
          sym (none_left order octets place (at + n) h so_far) ∙ sym (ap (λ (x : List Bool). more_zeros (at + n + 1 - place)
          (zeros_before x)) (drop_all (at + n + 1) (bits_of order octets) over))
    ])

-- a word of 0 bits
pub word_on : (order : Order) (octets : List ℕ) (place at word count : ℕ) → place ≤ at → IsWordAt order octets at word
    → IsFirstInWord word 0 false count → 64 ≤ count
    → zeros_before (drop place (bits_of order octets)) ≡ more_zeros (at - place) (zeros_before (drop at (bits_of order octets)))
    → zeros_before (drop place (bits_of order octets)) ≡ more_zeros (at + 64 - place) (zeros_before (drop (at + 64) (bits_of order octets)))
word_on order octets place at word count past is first none before =
    zeros_on order octets place at 64 past (λ k h. sym (is k h) ∙ first.before k (omega arith) (omega arith)) before

-- a word with a 1: it is one of the bits, and ends the 0 bits
pub word_ends : (order : Order) (octets : List ℕ) (place at word count : ℕ) → place ≤ at → IsWordAt order octets at word
    → IsFirstInWord word 0 false count → count < 64
    → zeros_before (drop place (bits_of order octets)) ≡ more_zeros (at - place) (zeros_before (drop at (bits_of order octets)))
    → (at + count < 8 * length octets) × (Some (at - place + count) ≡ zeros_before (drop place (bits_of order octets)))
word_ends order octets place at word count past is first some before =
    let one : bit_in order octets (at + count) ≡ true = sym (is count some) ∙ first.hit some in
    let within : at + count < 8 * length octets = elim (cases_lt (at + count) (8 * length octets)) [
      | inl h ↦ h
      | inr h ↦ absurd (true≢false (sym one ∙ bit_in-past order octets (at + count) h))
    ] in
    let there = one_ends order octets place (at + count) within one (zeros_on order octets place at count past
    (λ k h. sym (is k (omega arith)) ∙ first.before k (omega arith) h) before) in
    let same : at - place + count ≡ at + count - place = omega arith in
    (within, rw same there)

-- the bits of the EOLs that are there, so many at most
unfoldable pub counted : ℕ → List Bool → ℕ
counted most x = bits_of_eols most x

pub counted_five : (x : List Bool) → bits_of_five x ≡ counted 5 x
unfolding counted
counted_five x = five_eols x

pub counted_over : (x : List Bool) → counted 0 x ≡ 0
unfolding counted
counted_over x = refl

pub counted_none : (most : ℕ) (x : List Bool) → zeros_before x ≡ None → counted most x ≡ 0
unfolding counted
counted_none most x is = eols_none most x is

pub counted_other : (most : ℕ) (x : List Bool) → CodeBegins x → counted most x ≡ 0
unfolding counted
counted_other most x stands = eols_other most x stands

pub counted_go : (most n : ℕ) (x : List Bool) → zeros_before x ≡ Some n → 11 ≤ n → counted (suc most) x ≡ n + 1 + counted most (drop (n + 1) x)
unfolding counted
counted_go most n x is long = eols_go most n x is long

-- how many bits are left from a place on
pub bits_left : (order : Order) (octets : List ℕ) (place : ℕ) → length (drop place (bits_of order octets)) ≡ 8 * length octets - place
bits_left order octets place = simp (length-drop, length-bits_in)

-- one EOL more is counted
pub eol_counted : (order : Order) (octets : List ℕ) (all after counter bits : ℕ) → counter < 5 → after ≤ 8 * length octets
    → SeesEol (drop after (bits_of order octets)) (Present bits)
    → all ≡ after + counted (5 - counter) (drop after (bits_of order octets))
    → (after + bits ≤ 8 * length octets) × (all ≡ after + bits + counted (5 - (counter + 1)) (drop (after + bits) (bits_of order octets)))
eol_counted order octets all after counter bits few within sees before =
    let left = bits_left order octets after in
    let next : 5 - counter ≡ suc (5 - (counter + 1)) = omega arith in
    let one = ap (λ (most : ℕ). counted most (drop after (bits_of order octets))) next ∙
    counted_go (5 - (counter + 1)) sees.0 (drop after (bits_of order octets)) sees.1 sees.2 in
    let on : drop (sees.0 + 1) (drop after (bits_of order octets)) ≡ drop (after + bits) (bits_of order octets) = drop-drop (sees.0 + 1)
    after (bits_of order octets) ∙ ap (λ (n : ℕ). drop (after + n) (bits_of order octets)) (sym sees.3) in
    let far = ap (counted (5 - (counter + 1))) on in
    (omega (arith, left, sees.4), omega (arith, before, one, far, sees.3))

-- no EOL is there
pub eols_end : (most : ℕ) (x : List Bool) (eol : Eol) → SeesEol x eol → (eol ≡ Absent) ⊎ (eol ≡ OnlyZeros) → counted most x ≡ 0
eols_end most x eol sees (inl e) = counted_other most x (subst (λ (seen : Eol). SeesEol x seen) e sees)
eols_end most x eol sees (inr e) = counted_none most x (subst (λ (seen : Eol). SeesEol x seen) e sees)

-- ---- an EOL that is told from the first bits as a number

-- 0 bits, and then a 1
zeros_some : (x : List Bool) (n : ℕ) → ((k : ℕ) → k < n → slice_index_or x k false ≡ false) → slice_index_or x n false ≡ true
    → zeros_before x ≡ Some n
zeros_some [] n zeros one = absurd (true≢false (sym one))
zeros_some (true ∷ x) zero zeros one = refl
zeros_some (true ∷ x) (suc n) zeros one = absurd (true≢false (zeros 0 (omega arith)))
zeros_some (false ∷ x) zero zeros one = absurd (true≢false (sym one))
zeros_some (false ∷ x) (suc n) zeros one = ap (option_map suc) (zeros_some x n (λ k h. zeros (suc k) (omega arith)) one)

-- the 0 bits that begin a number
pub zeros_seen : (count : ℕ) (x : List Bool) (word zeros : ℕ) → AreFirst count x word → count ≤ 64 → IsFirstInWord word 0 false zeros
    → zeros < count → zeros_before x ≡ Some zeros
zeros_seen count x word zeros is most first some =
    zeros_some x zeros (λ k h. sym (is k (omega arith)) ∙ first.before k (omega arith) h)
    (sym (is zeros some) ∙ first.hit (omega arith))

-- an EOL
pub eol_seen : (x : List Bool) (word zeros : ℕ) → AreFirst 57 x word → 57 ≤ length x → IsFirstInWord word 0 false zeros → 11 ≤ zeros
    → zeros ≤ 45 → SeesEol x (Present (zeros + 1))
eol_seen x word zeros is long first some few =
    (zeros, zeros_seen 57 x word zeros is (omega arith) first (omega arith), some, refl, omega arith)

-- a row's code after it
pub code_after : (order : Order) (octets : List ℕ) (place word zeros more : ℕ) → AreFirst 57 (drop place (bits_of order octets)) word
    → zeros ≤ 45 → IsFirstInWord (word * 2 ^ (zeros + 1) % 2 ^ 64) 0 false more → more < 11
    → CodeBegins (drop (place + (zeros + 1)) (bits_of order octets))
code_after order octets place word zeros more is few first short =
    let there = drop-drop (zeros + 1) place (bits_of order octets) in
    let seen = zeros_seen (57 - (zeros + 1)) (drop (zeros + 1) (drop place (bits_of order octets))) (word * 2 ^ (zeros + 1) % 2 ^ 64) more
    (front_moved (zeros + 1) 57 (drop place (bits_of order octets)) word (omega arith) (omega arith) is) (omega arith) first
    (omega arith) in
    (more, ap (λ (x : List Bool). zeros_before x) (sym there) ∙ seen, short)
