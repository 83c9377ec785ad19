-- EOLs at a page's end, of which a reader of rows remembers those that it passed.
use Rattle.std.proofs.Common.{ℕ, zero, suc, ◌≡◌, ◌≢◌, ◌⊎◌, ◌+◌, ◌-◌, ◌≤◌, Bool, true, false, List, [], ◌∷◌, ◌++◌, length, drop}
use Rattle.std.proofs.Common.{Some, None, refl, ap, replicate, sym, ◌∙◌, subst, arith, length-append, drop-drop}
use Rattle.std.specs.Prelude.{Option}
use Rattle.std.specs.Option.{option_map}
use Rattle.std.proofs.lemmas.List.{drop-append-le, length-drop, length-replicate}
use Rattle.page_code.specs.OneDimension.Fronts.{bits_of_five, zeros_before}
use Rattle.page_code.specs.OneDimension.OpenRows.{AreZerosBefore}
use Rattle.page_code.specs.OneDimension.Reading.{SeesEol}
use Rattle.page_code.specs.PassedRows.{AreEols, AreEolsPassed}
use Rattle.page_code.specs.declared.one_dim.eol.Eol.{Eol}
use Rattle.page_code.specs.declared.one_dim.eol.Eol.TheVariants.{Absent, OnlyZeros, Present}
use Rattle.page_code.specs.declared.passed_row.EolsBefore.{EolsBefore}
use Rattle.page_code.proofs.OneDimension.SeesEol.{counted, counted_five, counted_go, counted_over, eols_end}

-- the 0 bits before a 1 are there in more bits too
zeros_next : (x more : List Bool) (n : ℕ) → ((m : ℕ) → zeros_before x ≡ Some m → zeros_before (x ++ more) ≡ Some m)
    → option_map suc (zeros_before x) ≡ Some n → option_map suc (zeros_before (x ++ more)) ≡ Some n
zeros_next x more n same is = known (zeros_before x) refl is
  where
    known : (o : Option ℕ) → zeros_before x ≡ o → option_map suc o ≡ Some n → option_map suc (zeros_before (x ++ more)) ≡ Some n
    known None e h = cc
    known (Some m) e h = ap (option_map suc) (same m e) ∙ h

zeros_same : (x more : List Bool) (n : ℕ) → zeros_before x ≡ Some n → zeros_before (x ++ more) ≡ Some n
zeros_same [] more n is = cc
zeros_same (true ∷ x) more n is = is
zeros_same (false ∷ x) more n is = zeros_next x more n (zeros_same x more) is

-- an EOL is there in more bits too
eol_same : (x more : List Bool) (place bits : ℕ) → place ≤ length x → SeesEol (drop place x) (Present bits)
    → SeesEol (drop place (x ++ more)) (Present bits)
eol_same x more place bits within sees =
    let there : drop place x ++ more ≡ drop place (x ++ more) = sym (drop-append-le place x more within) in
    subst (λ (y : List Bool). SeesEol y (Present bits)) there (
      sees.0,
      zeros_same (drop place x) more sees.0 sees.1,
      sees.2,
      sees.3,
      omega (arith, sees.4, length-append (drop place x) more),
    )

-- an EOL ends within the bits
eol_ends : (x : List Bool) (place bits : ℕ) → place ≤ length x → SeesEol (drop place x) (Present bits) → place + bits ≤ length x
eol_ends x place bits within sees = omega (arith, sees.4, length-drop place x)

pub eols_within : (count : ℕ) (x : List Bool) (from to : ℕ) → from ≤ length x → AreEols count x from to → to ≤ length x
eols_within zero x from to within is = omega (arith, is, within)
eols_within (suc count) x from to within is =
    eols_within count x (from + is.0) to (eol_ends x from is.0 within is.1) is.2

pub eols_same : (count : ℕ) (x more : List Bool) (from to : ℕ) → from ≤ length x → AreEols count x from to → AreEols count (x ++ more) from to
eols_same zero x more from to within is = is
eols_same (suc count) x more from to within is = (
  is.0,
  eol_same x more from is.0 within is.1,
  eols_same count x more (from + is.0) to (eol_ends x from is.0 within is.1) is.2,
)

-- one EOL more
eols_more : (count : ℕ) (x : List Bool) (from at bits : ℕ) → AreEols count x from at → SeesEol (drop at x) (Present bits)
    → AreEols (suc count) x from (at + bits)
eols_more zero x from at bits is sees =
    (bits, subst (λ (n : ℕ). SeesEol (drop n x) (Present bits)) is sees, ap (λ (n : ℕ). n + bits) is)
eols_more (suc count) x from at bits is sees = (is.0, is.1, eols_more count x (from + is.0) at bits is.2 sees)

-- the bits of EOLs are those of the ones passed and of the ones that follow
eols_counted : (count left : ℕ) (x : List Bool) (from to : ℕ) → AreEols count x from to
    → from + counted (count + left) (drop from x) ≡ to + counted left (drop to x)
eols_counted zero left x from to is = let none : 0 + left ≡ left = omega arith in rw (none, is) refl
eols_counted (suc count) left x from to is =
    let sees = is.1 in
    let more : suc count + left ≡ suc (count + left) = omega arith in
    let same = ap (λ (most : ℕ). counted most (drop from x)) more in
    let next : drop (sees.0 + 1) (drop from x) ≡ drop (from + is.0) x =
    drop-drop (sees.0 + 1) from x ∙ ap (λ (n : ℕ). drop (from + n) x) (sym sees.3) in
    let one = counted_go (count + left) sees.0 (drop from x) sees.1 sees.2 in
    let far = ap (counted (count + left)) next in
    omega (arith, same, one, far, sees.3, eols_counted count left x (from + is.0) to is.2)

-- ---- what was passed

pub passed_within : (x : List Bool) (passed : EolsBefore) → AreEolsPassed x passed → passed.at ≤ length x
passed_within x passed is = eols_within passed.count x 0 passed.at (omega arith) is.eols

pub passed_counted : (x : List Bool) (passed : EolsBefore) → AreEolsPassed x passed
    → counted 5 x ≡ passed.at + counted (5 - passed.count) (drop passed.at x)
passed_counted x passed is =
    let all : passed.count + (5 - passed.count) ≡ 5 = omega (arith, is.few) in
    let same = ap (λ (most : ℕ). counted most x) all in
    omega (arith, same, eols_counted passed.count (5 - passed.count) x 0 passed.at is.eols)

-- none was passed
pub no_eols : (x : List Bool) (passed : EolsBefore) → passed.at ≡ 0 → passed.count ≡ 0 → passed.zeros ≡ 0 → AreEolsPassed x passed
no_eols x passed at count zeros = record {
  few = omega (arith, count);
  eols = rw count at;
  zeros = rw zeros (drop passed.at x, refl);
}

-- one EOL more was passed
pub passed_one : (x : List Bool) (passed : EolsBefore) (bits : ℕ) → AreEolsPassed x passed → passed.count + 1 ≤ 5
    → SeesEol (drop passed.at x) (Present bits)
    → AreEolsPassed x (record { at = passed.at + bits; count = passed.count + 1; zeros = 0 })
passed_one x passed bits is few sees =
    let next : suc passed.count ≡ passed.count + 1 = omega arith in record {
      few = few;
      eols = subst (λ (n : ℕ). AreEols n x 0 (passed.at + bits)) next (eols_more passed.count x 0 passed.at bits is.eols sees);
      zeros = (drop (passed.at + bits) x, refl);
    }

-- a number of 0 bits come after them
pub passed_left : (x : List Bool) (passed : EolsBefore) (left : ℕ) → AreEolsPassed x passed → AreZerosBefore x passed.at left
    → AreEolsPassed x (record { at = passed.at; count = passed.count; zeros = left })
passed_left x passed left is come = record { few = is.few; eols = is.eols; zeros = come }

-- the first of them comes first
eols_first : (count : ℕ) (x : List Bool) (at : ℕ) → count ≢ 0 → AreEols count x 0 at → (first : ℕ) × SeesEol x (Present first)
eols_first zero x at some is = absurd (some refl)
eols_first (suc count) x at some is = (is.0, is.1)

pub passed_first : (x : List Bool) (passed : EolsBefore) → AreEolsPassed x passed → passed.count ≢ 0
    → (first : ℕ) × SeesEol x (Present first)
passed_first x passed is some = eols_first passed.count x passed.at some is.eols

-- ---- more bits

-- what was passed of no bits is nothing
eols_nowhere : (count at : ℕ) → AreEols count [] 0 at → (count ≡ 0) × (at ≡ 0)
eols_nowhere zero at is = (refl, is)
eols_nowhere (suc count) at is = let none : None ≡ Some is.1.0 = is.1.1 in cc

pub passed_anywhere : (x : List Bool) (passed : EolsBefore) → AreEolsPassed [] passed → AreEolsPassed x passed
passed_anywhere x passed is =
    let none = eols_nowhere passed.count passed.at is.eols in
    let nil : List Bool = [] in
    no_eols x passed none.1 none.0 (omega (
      arith,
      length-drop passed.at nil,
      ap (λ (l : List Bool). length l) is.zeros.1,
      length-append (replicate passed.zeros false) is.zeros.0,
      length-replicate passed.zeros false,
    ))

-- ---- by the octets at hand

-- an EOL after those that were passed
pub sees_near : (bits : List Bool) (place at : ℕ) (eol : Eol) → SeesEol (drop (place + at) bits) eol
    → SeesEol (drop at (drop place bits)) eol
sees_near bits place at eol sees = subst (λ (x : List Bool). SeesEol x eol) (sym (drop-drop at place bits)) sees

-- all that come were passed where no EOL follows, or five were
pub passed_all : (x : List Bool) (passed : EolsBefore) (eol : Eol) → AreEolsPassed x passed → SeesEol (drop passed.at x) eol
    → (eol ≡ Absent) ⊎ (eol ≡ OnlyZeros) → passed.at ≡ bits_of_five x
passed_all x passed eol is sees none = omega (
  arith,
  counted_five x,
  passed_counted x passed is,
  eols_end (5 - passed.count) (drop passed.at x) eol sees none,
)

pub passed_five : (x : List Bool) (passed : EolsBefore) → AreEolsPassed x passed → 5 ≤ passed.count → passed.at ≡ bits_of_five x
passed_five x passed is full =
    let over : 5 - passed.count ≡ 0 = omega (arith, full) in
    let none = ap (λ (most : ℕ). counted most (drop passed.at x)) over in
    omega (arith, counted_five x, passed_counted x passed is, none, counted_over (drop passed.at x))
