-- Writing a one-dimensional page.
use Rattle.std.proofs.Common.{ℕ, zero, suc, ◌≡◌, ◌+◌, ◌<◌, Bool, List, [], ◌∷◌, ◌++◌, length, take, replicate, get_or, refl, ap, sym, ◌∙◌}
use Rattle.std.proofs.Common.{arith, append_assoc}
use Rattle.std.proofs.lemmas.List.{append-nil, take_more}
use Rattle.raster.specs.declared.row.Color.{Color}
use Rattle.raster.specs.declared.row.Color.TheVariants.{White}
use Rattle.raster.specs.Packed.{Bits}
use Rattle.run_tables.specs.RunWords.{runs_words}
use Rattle.run_tables.specs.Written.{AppendsRow}
use Rattle.page_code.specs.OneDimension.Pages.{eol_word, eol_words, row_words, rows_words}
use Rattle.page_code.proofs.OneDimension.OwnRuns.{own_runs_only}

pub rows_words-append : (a b : List (List Color)) → rows_words (a ++ b) ≡ rows_words a ++ rows_words b
rows_words-append [] b = refl
rows_words-append (row ∷ a) b =
    ap (λ (l : List Bool). eol_word 11 ++ (row_words row ++ l)) (rows_words-append a b) ∙
    (ap (λ (l : List Bool). eol_word 11 ++ l) (sym (append_assoc (row_words row) (rows_words a) (rows_words b))) ∙
    sym (append_assoc (eol_word 11) (row_words row ++ rows_words a) (rows_words b)))

-- one row more
rows_words_more : (rows : List (List Color)) (at : ℕ) (row : List Color) → at < length rows → get_or rows at row ≡ row
    → rows_words (take (at + 1) rows) ≡ rows_words (take at rows) ++ (eol_word 11 ++ row_words row)
rows_words_more rows at row h is =
    ap rows_words (take_more rows at row h ∙ ap (λ (r : List Color). take at rows ++ r ∷ []) is) ∙
    (rows_words-append (take at rows) (row ∷ []) ∙
    ap (λ (l : List Bool). rows_words (take at rows) ++ (eol_word 11 ++ l)) (append-nil (row_words row)))

-- one row more is written
pub row_written : (old before new : Bits) (rows : List (List Color)) (at : ℕ) (row : List Color) → at < length rows
    → get_or rows at row ≡ row → before ≡ record old { bits = old.bits ++ rows_words (take at rows) }
    → new ≡ record before { bits = before.bits ++ (eol_word 11 ++ row_words row) }
    → new ≡ record old { bits = old.bits ++ rows_words (take (at + 1) rows) }
row_written old before new rows at row h is first second =
    let with_bits : List Bool → Bits = λ l. record old { bits = l } in
    second ∙
    (ap (λ (b : Bits). record b { bits = b.bits ++ (eol_word 11 ++ row_words row) }) first ∙
    ap with_bits (append_assoc old.bits (rows_words (take at rows)) (eol_word 11 ++ row_words row) ∙
    ap (λ (l : List Bool). old.bits ++ l) (sym (rows_words_more rows at row h is))))

-- an EOL and a row are written
pub row_after_eol : (old mid new : Bits) (row : List Color) → 0 < length row → mid ≡ record old { bits = old.bits ++ eol_word 11 }
    → AppendsRow row mid new → new ≡ record old { bits = old.bits ++ (eol_word 11 ++ row_words row) }
row_after_eol old mid new row some first second =
    let with_bits : List Bool → Bits = λ l. record old { bits = l } in
    let word : runs_words White second.0 ≡ row_words row = ap (runs_words White) (own_runs_only row second.0 some second.1) in
    second.2 ∙
    (ap (λ (m : Bits). record m { bits = m.bits ++ runs_words White second.0 }) first ∙
    ap with_bits (append_assoc old.bits (eol_word 11) (runs_words White second.0) ∙
    ap (λ (l : List Bool). old.bits ++ (eol_word 11 ++ l)) word))

-- EOLs are the same from either end
eol_words_more : (count : ℕ) → eol_words (replicate count 11) ++ eol_word 11 ≡ eol_words (replicate (suc count) 11)
eol_words_more zero = sym (append-nil (eol_word 11))
eol_words_more (suc count) = append_assoc (eol_word 11) (eol_words (replicate count 11)) (eol_word 11) ∙
    ap (λ (l : List Bool). eol_word 11 ++ l) (eol_words_more count)

-- one EOL more is written
pub eol_written : (old before new : Bits) (count : ℕ) → before ≡ record old { bits = old.bits ++ eol_words (replicate count 11) }
    → new ≡ record before { bits = before.bits ++ eol_word 11 }
    → new ≡ record old { bits = old.bits ++ eol_words (replicate (count + 1) 11) }
eol_written old before new count first second =
    let with_bits : List Bool → Bits = λ l. record old { bits = l } in
    let next : suc count ≡ count + 1 = omega arith in
    second ∙
    (ap (λ (b : Bits). record b { bits = b.bits ++ eol_word 11 }) first ∙
    ap with_bits (append_assoc old.bits (eol_words (replicate count 11)) (eol_word 11) ∙
    ap (λ (l : List Bool). old.bits ++ l) (eol_words_more count ∙ ap (λ (n : ℕ). eol_words (replicate n 11)) next)))
