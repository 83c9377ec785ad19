-- Where the rows of a page end, and whether another one may be there.
use Rattle.std.proofs.Common.{ℕ, suc, ◌≡◌, ◌-◌, ◌<◌, ◌≤◌, Bool, false, List, [], ◌∷◌, ◌++◌, length, replicate, Some, None}
use Rattle.std.proofs.Common.{inl, inr, refl, ap, sym, ◌∙◌, subst, arith, append_assoc}
use Rattle.std.specs.Prelude.{codes}
use Rattle.raster.specs.declared.row.Color.{Color}
use Rattle.raster.specs.declared.row.Color.TheVariants.{White}
use Rattle.run_tables.specs.Codes.{text}
use Rattle.page_code.specs.OneDimension.Fronts.{zeros_before}
use Rattle.page_code.specs.OneDimension.Pages.{eol_word}
use Rattle.page_code.specs.TwoDimensions.Modes.{Mode, SpellsLine, SpellsRow, mode_words}
use Rattle.page_code.specs.TwoDimensions.Modes.Mode.{pass, vertical, horizontal}
use Rattle.raster.specs.declared.coding.Coding.TheVariants.{T6}
use Rattle.page_code.specs.declared.page.Progress.{Progress}
use Rattle.page_code.specs.RowsSoFar.{IsFurther, IsReadTo, between_rows}
use Rattle.page_code.specs.TwoDimensions.Fronts.{PageStep, page_begin, page_item_word}
use Rattle.page_code.specs.TwoDimensions.PageEnds.{HoldsRowsTo, NoRowBegins, PageEndsMean}
use Rattle.page_code.specs.TwoDimensions.Positions.{line_begin}
use Rattle.page_code.specs.declared.t6.mode.Shift.TheVariants.{V0, VR1, VR2, VR3, VL1, VL2, VL3}
use Rattle.page_code.proofs.FrontEnds.{leads_within}
use Rattle.page_code.proofs.TwoDimensions.RowsOn.{spelled_to}
use Rattle.page_code.proofs.OneDimension.LineEnds.{none_some, same_count}
use Rattle.page_code.proofs.OneDimension.ZerosBefore.{none_zeros, zeros_none, zeros_split}

-- seven 0 bits and more before a 1
long_begins : (n : ℕ) (rest : List Bool) → 7 ≤ n → (more : List Bool) × (eol_word n ++ rest ≡ replicate 7 false ++ more)
long_begins n rest long =
    let whole : suc (suc (suc (suc (suc (suc (suc (n - 7))))))) ≡ n = omega (arith, long) in
    (eol_word (n - 7) ++ rest, sym (ap (λ (k : ℕ). eol_word k ++ rest) whole))

module _ (x : List Bool) where
  pub none_begins : zeros_before x ≡ None → NoRowBegins x
  none_begins is = inl (none_zeros x is)

  pub long_ends : (n : ℕ) → zeros_before x ≡ Some n → 7 ≤ n → NoRowBegins x
  long_ends n is long =
      let there = zeros_split x n is in
      let more = long_begins n there.0 long in
      inr (more.0, there.1 ∙ more.1)

-- seven 0 bits at the beginning
seven : (y : List Bool) (n : ℕ) → zeros_before (replicate 7 false ++ y) ≡ Some n → 7 ≤ n
seven y n is = counted (zeros_before y) refl
  where
    counted : (o : _) → zeros_before y ≡ o → 7 ≤ n
    counted None none =
        let all : zeros_before (replicate 7 false ++ y) ≡ None = rw none refl in absurd (none_some (zeros_before (replicate 7 false ++
        y)) n all is)
    counted (Some m) some =
        let all : zeros_before (replicate 7 false ++ y) ≡ Some (suc (suc (suc (suc (suc (suc (suc m))))))) = rw some refl in
        let same : n ≡ suc (suc (suc (suc (suc (suc (suc m)))))) = same_count (zeros_before (replicate 7 false ++ y)) n (suc (suc (suc (suc
        (suc (suc (suc m))))))) is all in
        omega (arith, same)

pub short_begins : (x : List Bool) (n : ℕ) → zeros_before x ≡ Some n → n < 7 → ¬ NoRowBegins x
short_begins x n is short (inl zeros) = none_some (zeros_before x) n (zeros_none x zeros) is
short_begins x n is short (inr begins) =
    omega (arith, short, seven begins.0 n (ap zeros_before (sym begins.1) ∙ is))

-- where the rows end that were read
pub ends_there : (width : ℕ) (bits : List Bool) (old new : Progress) → old.page.width ≡ width → IsFurther T6 bits old new
    → 0 < length new.page.rows → HoldsRowsTo width bits new.page.rows new.place
unfolding IsReadTo
ends_there width bits old new same read some = spelled_to width bits new.page.rows new.place some (subst (λ (w : ℕ). IsReadTo T6 w bits
    new.page.rows new.place) (read.width ∙ same) read.read)

pub ends_within : (bits : List Bool) (old new : Progress) → IsFurther T6 bits old new → new.place ≤ length bits
unfolding IsReadTo
ends_within bits old new read = leads_within page_item_word (PageStep new.page.width) (page_begin new.page.width) (between_rows
    new.page.width new.page.rows) bits new.place read.read

-- Law

-- a mode has a 1 among its first seven bits
mode_short : (color : Color) (mode : Mode) (rest : List Bool) → (n : ℕ) × (zeros_before (mode_words color mode ++ rest) ≡ Some n) × (n < 7)
mode_short color pass rest = (3, refl, omega arith)
mode_short color (vertical V0) rest = (0, refl, omega arith)
mode_short color (vertical VR1) rest = (1, refl, omega arith)
mode_short color (vertical VR2) rest = (4, refl, omega arith)
mode_short color (vertical VR3) rest = (5, refl, omega arith)
mode_short color (vertical VL1) rest = (1, refl, omega arith)
mode_short color (vertical VL2) rest = (4, refl, omega arith)
mode_short color (vertical VL3) rest = (5, refl, omega arith)
mode_short color (horizontal a0a1 a1a2) rest = (2, refl, omega arith)

pub no_row : (width : ℕ) (reference row : List Color) (front rest : List Bool) → NoRowBegins (front ++ rest)
    → SpellsRow width reference row front → length row ≡ 0
no_row width reference row front rest none (modes, spells) = seen modes spells
  where
    seen : (modes : List Mode) → SpellsLine width reference line_begin modes row front → length row ≡ 0
    seen [] (same, wide, empty) = sym (ap length same)
    seen (mode ∷ more) spelled =
        let split : front ++ rest ≡ mode_words White mode ++ (spelled.1 ++ rest) =
        ap (λ (l : List Bool). l ++ rest) spelled.3 ∙ append_assoc (mode_words White mode) spelled.1 rest in
        let short = mode_short White mode (spelled.1 ++ rest) in
        absurd (short_begins (front ++ rest) short.0 (ap zeros_before split ∙ short.1) short.2 none)

pub page_ends_mean : PageEndsMean
page_ends_mean = record {
  no_row = no_row;
  whole = λ rest. inr (text (codes "00001000000000001") ++ rest, refl);
  one_eol = λ rest. inr (text (codes "00001") ++ rest, refl);
  cut = inl (none_zeros (text (codes "00000000")) refl);
  nothing = inl (none_zeros [] refl);
  six = inl (none_zeros (text (codes "000000")) refl);
  extension = short_begins (text (codes "0000001111")) 6 refl (omega arith);
}
