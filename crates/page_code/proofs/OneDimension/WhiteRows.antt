-- White rows, each written by an EOL without fill and one run.
use Rattle.std.proofs.Common.{ℕ, ◌≡◌, ◌+◌, ◌<◌, ◌≤◌, Bool, true, List, [], ◌∷◌, ◌++◌, length, drop, replicate}
use Rattle.std.proofs.Common.{refl, ap, sym, ◌∙◌, subst, arith, append_assoc}
use Rattle.std.proofs.lemmas.List.{append-nil, length-drop, length-replicate}
use Rattle.raster.specs.declared.row.Color.TheVariants.{White}
use Rattle.raster.specs.Pixels.{IsWidth}
use Rattle.raster.specs.declared.coding.Coding.TheVariants.{OneDim}
use Rattle.run_tables.specs.Codes.{run_words}
use Rattle.run_tables.specs.Texts.{begins}
use Rattle.run_tables.specs.RowLaws.{ReadsAsRow}
use Rattle.run_tables.specs.RunWords.{SpellsRow}
use Rattle.run_tables.specs.Numbers.{number_text}
use Rattle.run_tables.proofs.BeginsLemmas.{begins_split}
use Rattle.run_tables.proofs.NumberLemmas.{begins_within, length-number_text}
use Rattle.run_tables.proofs.RowSpelling.{own_runs_spell}
use Rattle.raster.specs.declared.row.Color.{Color}
use Rattle.page_code.specs.RowsSoFar.{IsReadTo}
use Rattle.page_code.specs.TwoDimensions.Positions.{white_line}
use Rattle.page_code.specs.OneDimension.Pages.{eol_word}
use Rattle.page_code.specs.OneDimension.Reading.{SeesEol}
use Rattle.page_code.specs.OneDimension.WhiteRows.{IsWhiteRow}
use Rattle.page_code.specs.declared.one_dim.Start.TheVariants.{Row}
use Rattle.page_code.specs.declared.one_dim.white_rows.WhiteRow.{WhiteRow}
use Rattle.page_code.specs.declared.one_dim.eol.Eol.TheVariants.{Present}
use Rattle.page_code.proofs.FrontEnds.{drop_on}
use Rattle.page_code.proofs.OneDimension.RepairLaws.{read_begins}
use Rattle.page_code.proofs.OneDimension.RowsOn.{finds_after_eol, row_on}

-- the code words of a white row are read as that row
white_reads : (width : ℕ) (rest : List Bool) → IsWidth width
    → ReadsAsRow width (run_words White width ++ rest) (white_line width) (length (run_words White width))
white_reads width rest wide =
    let full : length (white_line width) ≡ width = length-replicate width White in
    record {
      front = run_words White width;
      rest = rest;
      spells = subst (SpellsRow (white_line width)) (append-nil (run_words White width)) (own_runs_spell (white_line width) (width ∷ [])
          (subst IsWidth (sym full) wide) (record {
            spelled = sym (append-nil (replicate width White));
            later = λ k d less. absurd (omega (arith, less));
          }));
      wide = full;
      split = refl;
      used_is = refl;
    }

-- an EOL without fill
short_eol : (rest : List Bool) → SeesEol (eol_word 11 ++ rest) (Present 12)
short_eol rest = (11, refl, omega arith, omega arith, omega arith)

-- one white row more
pub white_on : (width : ℕ) (bits : List Bool) (rows : List (List Color)) (place : ℕ) → IsWidth width → length rows < 20000
    → IsReadTo OneDim width bits rows place → place ≤ length bits
    → begins (eol_word 11 ++ run_words White width) (drop place bits) ≡ true
    → IsReadTo OneDim width bits (rows ++ white_line width ∷ []) (place + (12 + length (run_words White width)))
unfolding IsReadTo
white_on width bits rows place wide room kept within next =
    let words : List Bool = run_words White width in
    let rest : List Bool = drop (length (eol_word 11 ++ words)) (drop place bits) in
    let there : drop place bits ≡ eol_word 11 ++ (words ++ rest) =
    begins_split (eol_word 11 ++ words) (drop place bits) next ∙ append_assoc (eol_word 11) words rest in
    let after : drop (place + 12) bits ≡ words ++ rest = drop_on bits (eol_word 11) (words ++ rest) place (place + 12) there refl in
    let reads : ReadsAsRow width (drop (place + 12) bits) (white_line width) (length words) =
    subst (λ l. ReadsAsRow width l (white_line width) (length words)) (sym after) (white_reads width rest wide) in
    let found = finds_after_eol bits width rows place 12 (Row (place + 12)) within
    (subst (λ l. SeesEol l (Present 12)) (sym there) (short_eol (words ++ rest)))
    (refl, read_begins width (drop (place + 12) bits) (white_line width) (length words) wide reads, room) in
    let far : place + 12 + length words ≡ place + (12 + length words) = omega arith in
    subst (λ n. IsReadTo OneDim width bits (rows ++ white_line width ∷ []) n) far
    (row_on width bits rows (white_line width) place (place + 12) (length words) wide kept found reads)

-- the number of a white row's bits
pub white_bits : (width : ℕ) (white : WhiteRow) → IsWhiteRow width white → white.bits ≡ 12 + length (run_words White width)
white_bits width white is = omega (arith, length-number_text white.bits white.number, ap length is.text)

-- the bits of a white row that comes next are there
pub white_fits : (width place : ℕ) (white : WhiteRow) (bits : List Bool) → IsWhiteRow width white
    → begins (number_text white.bits white.number) (drop place bits) ≡ true → place + white.bits ≤ length bits
white_fits width place white bits is next = omega (
  arith,
  begins_within (number_text white.bits white.number) (drop place bits) next,
  length-number_text white.bits white.number,
  length-drop place bits,
  white_bits width white is,
)

-- after a white row that comes next, a page is read further
pub white_read : (white : WhiteRow) (old width : ℕ) (bits : List Bool) (rows : List (List Color)) (place : ℕ) → width ≡ old → IsWidth old
    → IsWhiteRow old white → length rows < 20000 → IsReadTo OneDim width bits rows place
    → begins (number_text white.bits white.number) (drop place bits) ≡ true
    → IsReadTo OneDim width bits (rows ++ white_line width ∷ []) (place + white.bits)
white_read white old width bits rows place same wide is room kept next =
    let here : IsWhiteRow width white = subst (λ w. IsWhiteRow w white) (sym same) is in
    let fits = white_fits width place white bits here next in
    let far : place + (12 + length (run_words White width)) ≡ place + white.bits = omega (arith, white_bits width white here) in
    subst (λ n. IsReadTo OneDim width bits (rows ++ white_line width ∷ []) n) far
    (white_on width bits rows place (subst IsWidth (sym same) wide) room kept (omega (arith, fits))
    (subst (λ l. begins l (drop place bits) ≡ true) here.text next))
