-- When lines end, where reading goes on, and where the first line begins, by bits.
use Rattle.std.proofs.Common.{ℕ, zero, suc, ◌≡◌, ◌+◌, ◌-◌, ◌<◌, ◌≤◌, Bool, true, false, List, [], ◌∷◌, ◌++◌, drop, inl, inr, refl, ap}
use Rattle.std.proofs.Common.{sym, ◌∙◌, subst, arith}
use Rattle.std.specs.Prelude.{Some, codes, slice_set}
use Rattle.raster.specs.Words.{number_bits}
use Rattle.raster.specs.declared.row.Color.{Color}
use Rattle.raster.specs.declared.row.Color.TheVariants.{White, Black}
use Rattle.run_tables.specs.Codes.{text}
use Rattle.page_code.specs.OneDimension.Fronts.{zeros_before}
use Rattle.page_code.specs.OneDimension.LinesMean.{FirstLineMeans, LineEndsMean, RowLinesEndMean, SkippingMeans}
use Rattle.page_code.specs.OneDimension.Pages.{eol_word}
use Rattle.page_code.specs.OneDimension.Repairs.{EndsInBlack, EndsLine, EndsRow, TornEolOf}
use Rattle.page_code.proofs.OneDimension.LineEnds.{Seen, end_seen, no_line_end, none_some, one_end, one_row_end, one_skip}
use Rattle.page_code.proofs.OneDimension.LineEnds.{same_count, skips_all, skips_eol, skips_on, white_0}
use Rattle.page_code.proofs.OneDimension.ZerosBefore.{none_zeros, zeros_eol}

-- a 1 in place of a 0 bit of an EOL
set_bit : (place more : ℕ) (rest : List Bool)
    → slice_set (eol_word (place + suc more) ++ rest) place true ≡ eol_word place ++ (eol_word more ++ rest)
set_bit zero more rest =
    let same : 0 + suc more ≡ suc more = omega arith in ap (λ (n : ℕ). slice_set (eol_word n ++ rest) 0 true) same
set_bit (suc place) more rest =
    let same : suc place + suc more ≡ suc (place + suc more) = omega arith in
    ap (λ (n : ℕ). slice_set (eol_word n ++ rest) (suc place) true) same ∙ ap (λ (bits : List Bool). false ∷ bits) (set_bit place more rest)

is_torn : (count place : ℕ) (rest : List Bool) → 11 ≤ count → place < 11 → TornEolOf (slice_set (eol_word count ++ rest) place true)
    (count + 1)
is_torn count place rest long early =
    let whole : place + suc (count - place - 1) ≡ count = omega (arith, long, early) in (
      place,
      count - place - 1,
      rest,
      early,
      omega (arith, long, early),
      subst (λ (n : ℕ). slice_set (eol_word n ++ rest) place true ≡ eol_word place ++ (eol_word (count - place - 1) ++ rest)) whole
          (set_bit place (count - place - 1) rest),
      omega (arith, long, early),
    )

-- nine 0 bits and two 1s
abbrev nine : List Bool
nine = text (codes "0000000001" ++ codes "10011")

no_end : (used : ℕ) → Seen nine used → ⊥
no_end used (inl none) = none_some (zeros_before nine) 9 none.0 refl
no_end used (inr (inl eol)) = omega (arith, eol.2, same_count (zeros_before nine) eol.0 9 eol.1 refl)
no_end used (inr (inr torn)) =
    let zeros : torn.0 ≡ 9 = same_count (zeros_before nine) torn.0 9 torn.2 refl in
    let more : torn.1 ≡ 0 = same_count (zeros_before (drop (9 + 1) nine)) torn.1 0
    (subst (λ (n : ℕ). zeros_before (drop (n + 1) nine) ≡ Some torn.1) zeros torn.4) refl in
    omega (arith, zeros, more, torn.5)

pub line_ends_mean : LineEndsMean
line_ends_mean = record {
  whole = λ count rest long. inr (inl (count, rest, long, refl, refl));
  torn = is_torn;
  last_wrong = (10, 0, text (codes "10011"), omega arith, omega arith, refl, refl);
  short = λ used ends. no_end used (end_seen nine used ends);
  nothing = inl (λ k d h. absurd (omega arith), refl);
  zeros = inl (none_zeros (text (codes "000")) refl, refl);
  one_way = one_end;
}

-- bits that begin with the code of a white run of 0 pixels end a row's line only as the bits after it do
after_white : (row : List Color) (rest : List Bool) (used : ℕ) → EndsRow row (number_bits 8 53 ++ rest) used
    → EndsInBlack row × ((more : ℕ) × EndsLine rest more)
after_white row rest used (inl ends) = absurd (no_line_end rest used ends)
after_white row rest used (inr (black, white)) =
    let same : white.0 ≡ rest = sym (ap (drop 8) (white.2 ∙ white_0 white.0)) in
    (black, (white.1, subst (λ (l : List Bool). EndsLine l white.1) same white.3))

-- no EOL
abbrev eleven : List Bool
eleven = text (codes "1011")

no_eleven : (used : ℕ) → Seen eleven used → ⊥
no_eleven used (inl none) = none_some (zeros_before eleven) 0 none.0 refl
no_eleven used (inr (inl eol)) = omega (arith, eol.2, same_count (zeros_before eleven) eol.0 0 eol.1 refl)
no_eleven used (inr (inr torn)) =
    let zeros : torn.0 ≡ 0 = same_count (zeros_before eleven) torn.0 0 torn.2 refl in
    let more : torn.1 ≡ 1 = same_count (zeros_before (drop (0 + 1) eleven)) torn.1 1
    (subst (λ (n : ℕ). zeros_before (drop (n + 1) eleven) ≡ Some torn.1) zeros torn.4) refl in
    omega (arith, zeros, more, torn.5)

pub row_lines_end_mean : RowLinesEndMean
row_lines_end_mean = record {
  at_once = λ row x used ends. inl ends;
  after_white =
      let rest = text (codes "000000000001" ++ codes "1011") in
      inr (refl, (rest, 12, sym (white_0 rest), inr (inl (11, eleven, omega arith, refl, refl)), refl));
  ends_white = λ used ends.
      let black : Some White ≡ Some Black = (after_white (Black ∷ White ∷ []) (text (codes "000000000001" ++ codes "1011")) used ends).0 in
      cc;
  twice = λ used ends.
      let there = (after_white (White ∷ Black ∷ []) (text (codes "00110101" ++ codes "000000000001")) used ends).1 in
      no_line_end (text (codes "000000000001")) there.0 there.1;
  no_eol = λ used ends.
      let there = (after_white (White ∷ Black ∷ []) eleven used ends).1 in
      no_eleven there.0 (end_seen eleven there.0 there.1);
  one_way = one_row_end;
}

pub skipping_means : SkippingMeans
skipping_means = record {
  after_eol =
      let x = text (codes "110" ++ codes "000000000001" ++ codes "01") in
      skips_on x 0 14 refl (omega arith) (skips_on (drop 1 x) 0 13 refl (omega arith) (skips_eol (drop 2 x) 12 refl (omega arith)));
  after_long =
      let x = text (codes "1" ++ codes "00000000000001" ++ codes "1") in
      skips_on x 0 14 refl (omega arith) (skips_eol (drop 1 x) 13 refl (omega arith));
  after_first = skips_eol (text (codes "000000000001" ++ codes "000000000001")) 11 refl (omega arith);
  after_all =
      let x = text (codes "1" ++ codes "00000000001") in
      skips_on x 0 11 refl (omega arith) (skips_on (drop 1 x) 10 0 refl (omega arith) (skips_all [] refl));
  nowhere_else = one_skip;
}

-- no EOL is at the beginning of bits that begin with fewer 0 bits
pub first_line_means : FirstLineMeans
first_line_means = record {
  after_eol = λ count rest long. inl (count, rest, long, refl, refl);
  at_once = inr (
    λ eol. omega (
      arith,
      eol.2,
      same_count (zeros_before (text (codes "10011"))) eol.0 0 (ap zeros_before eol.3
          ∙ zeros_eol eol.0 eol.1) refl,
    ),
    refl,
  );
  with_short_eol = inr (
    λ eol. omega (
      arith,
      eol.2,
      same_count (zeros_before (text (codes "00000000001"))) eol.0 10 (ap zeros_before eol.3
          ∙ zeros_eol eol.0 eol.1) refl,
    ),
    refl,
  );
}
