-- The 0 bits before each 1, and the EOLs among them.
use Rattle.std.proofs.Common.{ℕ, zero, suc, ◌≡◌, ◌+◌, ◌<◌, Bool, true, false, List, [], ◌∷◌, ◌++◌, drop, length, Some, None}
use Rattle.std.proofs.Common.{refl, ap, ◌∙◌, ◌-◌, ◌≤◌, arith}
use Rattle.std.proofs.lemmas.Bool.{le-leb, lt-leb}
use Rattle.std.proofs.lemmas.List.{drop_all}
use Rattle.std.specs.Prelude.{◌&&◌, Option}
use Rattle.std.specs.Option.{option_map}
use Rattle.page_code.specs.OneDimension.Fronts.{zeros_before}
use Rattle.page_code.specs.OneDimension.Pages.{eol_word}
use Rattle.page_files.specs.PageEnds.{begin_eols, first_eols_are_rtc, gaps}
use Rattle.page_files.proofs.LaterPages.{eol_there}

-- the first gap is that of the first 1
gap_first : (before zeros : ℕ) (rest : List Bool) → gaps before (eol_word zeros ++ rest) ≡ (before + zeros) ∷ gaps 0 rest
unfolding gaps
gap_first before zero rest =
    let same : before ≡ before + 0 = omega arith in
    ap (λ (n : ℕ). n ∷ gaps 0 rest) same
gap_first before (suc zeros) rest =
    let same : suc before + zeros ≡ before + suc zeros = omega arith in
    gap_first (suc before) zeros rest ∙ ap (λ (n : ℕ). n ∷ gaps 0 rest) same

-- where no 1 is left, there is no gap
no_gap : (before : ℕ) (x : List Bool) → zeros_before x ≡ None → gaps before x ≡ []
unfolding gaps
no_gap before [] e = refl
no_gap before (true ∷ x) e = cc
no_gap before (false ∷ x) e = no_gap (suc before) x (after (zeros_before x) refl e)
  where
    after : (o : Option ℕ) → zeros_before x ≡ o → option_map suc o ≡ None → zeros_before x ≡ None
    after None is e = is
    after (Some m) is e = cc

-- the gaps from a place on
module _ (bits : List Bool) (place : ℕ) where
  pub gap_there : (zeros : ℕ) → zeros_before (drop place bits) ≡ Some zeros
      → gaps 0 (drop place bits) ≡ zeros ∷ gaps 0 (drop (place + (zeros + 1)) bits)
  gap_there zeros is =
      let rest = drop (place + (zeros + 1)) bits in
      let none : 0 + zeros ≡ zeros = omega arith in
      ap (gaps 0) (eol_there bits place zeros is) ∙ (gap_first 0 zeros rest ∙ ap (λ (n : ℕ). n ∷ gaps 0 rest) none)

  pub none_there : zeros_before (drop place bits) ≡ None → gaps 0 (drop place bits) ≡ []
  none_there is = no_gap 0 (drop place bits) is

  -- one EOL fewer is left after this one
  pub eol_read : (eols read zeros : ℕ) → read < eols → zeros_before (drop place bits) ≡ Some zeros → 11 ≤ zeros
      → begin_eols (eols - read) (gaps 0 (drop place bits))
      ≡ begin_eols (eols - (read + 1)) (gaps 0 (drop (place + (zeros + 1)) bits))
  eol_read eols read zeros more is long =
      let left : eols - read ≡ suc (eols - (read + 1)) = omega arith in
      let rest = gaps 0 (drop (place + (zeros + 1)) bits) in
      ap (λ (n : ℕ). begin_eols n (gaps 0 (drop place bits))) left
      ∙ (ap (begin_eols (suc (eols - (read + 1)))) (gap_there zeros is)
      ∙ ap (λ (b : Bool). b && begin_eols (eols - (read + 1)) rest) (le-leb 11 zeros long))

  -- no EOL is there
  pub eol_short : (eols read zeros : ℕ) → read < eols → zeros_before (drop place bits) ≡ Some zeros → zeros < 11
      → begin_eols (eols - read) (gaps 0 (drop place bits)) ≡ false
  eol_short eols read zeros more is short =
      let left : eols - read ≡ suc (eols - (read + 1)) = omega arith in
      let rest = gaps 0 (drop (place + (zeros + 1)) bits) in
      ap (λ (n : ℕ). begin_eols n (gaps 0 (drop place bits))) left
      ∙ (ap (begin_eols (suc (eols - (read + 1)))) (gap_there zeros is)
      ∙ ap (λ (b : Bool). b && begin_eols (eols - (read + 1)) rest) (lt-leb 11 zeros short))

  pub eol_none : (eols read : ℕ) → read < eols → zeros_before (drop place bits) ≡ None
      → begin_eols (eols - read) (gaps 0 (drop place bits)) ≡ false
  eol_none eols read more is =
      let left : eols - read ≡ suc (eols - (read + 1)) = omega arith in
      ap (λ (n : ℕ). begin_eols n (gaps 0 (drop place bits))) left ∙ ap (begin_eols (suc (eols - (read + 1)))) (none_there is)

  -- all are read
  pub eols_all : (eols read : ℕ) → eols ≤ read → begin_eols (eols - read) (gaps 0 (drop place bits)) ≡ true
  eols_all eols read all =
      let none : eols - read ≡ 0 = omega arith in
      ap (λ (n : ℕ). begin_eols n (gaps 0 (drop place bits))) none

  -- two EOLs that follow one another are the first, or none are there
  pub first_two : begin_eols 2 (gaps 0 (drop place bits)) ≡ true
      → first_eols_are_rtc (gaps 0 (drop place bits)) ≡ begin_eols 6 (gaps 0 (drop place bits))
  first_two two = by (gaps 0 (drop place bits)) two
    where
      by : (all : List ℕ) → begin_eols 2 all ≡ true → first_eols_are_rtc all ≡ begin_eols 6 all
      by [] e = refl
      by (gap ∷ later) e = rw e refl

  pub not_two : (zeros : ℕ) → zeros_before (drop place bits) ≡ Some zeros → begin_eols 2 (gaps 0 (drop place bits)) ≡ false
      → first_eols_are_rtc (gaps 0 (drop place bits)) ≡ first_eols_are_rtc (gaps 0 (drop (place + (zeros + 1)) bits))
  not_two zeros is none =
      by zeros (gaps 0 (drop (place + (zeros + 1)) bits)) (gaps 0 (drop place bits)) (gap_there zeros is) none
    where
      by : (gap : ℕ) (later all : List ℕ) → all ≡ gap ∷ later → begin_eols 2 all ≡ false → first_eols_are_rtc all ≡ first_eols_are_rtc later
      by gap later all split e = rw split (rw (rw split at e) refl)

  pub no_rtc : zeros_before (drop place bits) ≡ None → first_eols_are_rtc (gaps 0 (drop place bits)) ≡ false
  no_rtc is = ap first_eols_are_rtc (none_there is)

  pub past_all : length bits ≤ place → first_eols_are_rtc (gaps 0 (drop place bits)) ≡ false
  past_all past = no_rtc (ap zeros_before (drop_all place bits past))
