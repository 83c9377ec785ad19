-- The mark that ends a page's code, among the 0 bits before each 1.
use Rattle.std.proofs.Common.{ℕ, suc, ◌≡◌, ◌+◌, ◌<◌, Bool, true, false, List, [], ◌∷◌, drop, length, Some, None}
use Rattle.std.proofs.Common.{refl, sym, ap, ◌∙◌, ◌-◌, ◌≤◌, arith}
use Rattle.std.proofs.lemmas.Bool.{le-leb, lt-leb}
use Rattle.std.proofs.lemmas.List.{drop_all}
use Rattle.std.specs.Prelude.{cond}
use Rattle.page_code.specs.OneDimension.Fronts.{zeros_before}
use Rattle.raster.specs.declared.coding.Coding.{Coding}
use Rattle.raster.specs.declared.coding.Coding.TheVariants.{OneDim, T6}
use Rattle.page_files.specs.Marks.{eols_end, mark_end, mark_eols, shown_by}
use Rattle.page_files.specs.PageEnds.{begin_eols, gaps}
use Rattle.page_files.proofs.LineEnds.{gap_there, none_there}

-- no EOL, no mark
no_eols : (coding : Coding) (place : ℕ) → eols_end (mark_eols coding) place [] ≡ None
no_eols OneDim place = refl
no_eols T6 place = refl

-- from a place on
module _ (bits : List Bool) (place : ℕ) where
  -- one EOL fewer is left after this one
  pub end_read : (eols read zeros : ℕ) → read < eols → zeros_before (drop place bits) ≡ Some zeros → 11 ≤ zeros
      → eols_end (eols - read) place (gaps 0 (drop place bits))
      ≡ eols_end (eols - (read + 1)) (place + (zeros + 1)) (gaps 0 (drop (place + (zeros + 1)) bits))
  end_read eols read zeros more is long =
      let left : eols - read ≡ suc (eols - (read + 1)) = omega arith in
      let rest = gaps 0 (drop (place + (zeros + 1)) bits) in
      ap (λ (n : ℕ). eols_end n place (gaps 0 (drop place bits))) left
      ∙ (ap (eols_end (suc (eols - (read + 1))) place) (gap_there bits place zeros is)
      ∙ ap (λ (b : Bool). cond b (eols_end (eols - (read + 1)) (place + (zeros + 1)) rest) None) (le-leb 11 zeros long))

  -- no EOL is there
  pub end_short : (eols read zeros : ℕ) → read < eols → zeros_before (drop place bits) ≡ Some zeros → zeros < 11
      → eols_end (eols - read) place (gaps 0 (drop place bits)) ≡ None
  end_short eols read zeros more is short =
      let left : eols - read ≡ suc (eols - (read + 1)) = omega arith in
      let rest = gaps 0 (drop (place + (zeros + 1)) bits) in
      ap (λ (n : ℕ). eols_end n place (gaps 0 (drop place bits))) left
      ∙ (ap (eols_end (suc (eols - (read + 1))) place) (gap_there bits place zeros is)
      ∙ ap (λ (b : Bool). cond b (eols_end (eols - (read + 1)) (place + (zeros + 1)) rest) None) (lt-leb 11 zeros short))

  pub end_none : (eols read : ℕ) → read < eols → zeros_before (drop place bits) ≡ None
      → eols_end (eols - read) place (gaps 0 (drop place bits)) ≡ None
  end_none eols read more is =
      let left : eols - read ≡ suc (eols - (read + 1)) = omega arith in
      ap (λ (n : ℕ). eols_end n place (gaps 0 (drop place bits))) left
      ∙ ap (eols_end (suc (eols - (read + 1))) place) (none_there bits place is)

  -- all are read
  pub end_all : (eols read : ℕ) → eols ≤ read → eols_end (eols - read) place (gaps 0 (drop place bits)) ≡ Some place
  end_all eols read all =
      let none : eols - read ≡ 0 = omega arith in
      ap (λ (n : ℕ). eols_end n place (gaps 0 (drop place bits))) none

  -- the EOLs that show a mark are the first, or no mark is there
  pub mark_shown : (coding : Coding) → begin_eols (shown_by coding) (gaps 0 (drop place bits)) ≡ true
      → mark_end coding place (gaps 0 (drop place bits)) ≡ eols_end (mark_eols coding) place (gaps 0 (drop place bits))
  mark_shown coding shown = by (gaps 0 (drop place bits)) shown
    where
      by : (all : List ℕ) → begin_eols (shown_by coding) all ≡ true → mark_end coding place all ≡ eols_end (mark_eols coding) place all
      by [] e = sym (no_eols coding place)
      by (gap ∷ later) e = rw e refl

  pub not_shown : (coding : Coding) (zeros : ℕ) → zeros_before (drop place bits) ≡ Some zeros
      → begin_eols (shown_by coding) (gaps 0 (drop place bits)) ≡ false
      → mark_end coding place (gaps 0 (drop place bits))
      ≡ mark_end coding (place + (zeros + 1)) (gaps 0 (drop (place + (zeros + 1)) bits))
  not_shown coding zeros is none =
      by zeros (gaps 0 (drop (place + (zeros + 1)) bits)) (gaps 0 (drop place bits)) (gap_there bits place zeros is) none
    where
      by : (gap : ℕ) (later all : List ℕ) → all ≡ gap ∷ later → begin_eols (shown_by coding) all ≡ false
          → mark_end coding place all ≡ mark_end coding (place + (gap + 1)) later
      by gap later all split e = rw split (rw (rw split at e) refl)

  pub no_mark : (coding : Coding) → zeros_before (drop place bits) ≡ None → mark_end coding place (gaps 0 (drop place bits)) ≡ None
  no_mark coding is = ap (mark_end coding place) (none_there bits place is)

  pub past_mark : (coding : Coding) → length bits ≤ place → mark_end coding place (gaps 0 (drop place bits)) ≡ None
  past_mark coding past = no_mark coding (ap zeros_before (drop_all place bits past))
