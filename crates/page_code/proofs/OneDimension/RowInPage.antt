-- A row inside a page: what is read of it by itself is read of it there.
use Rattle.std.proofs.Common.{ltb, ℕ, ◌≡◌, ◌+◌, ◌<◌, ◌≤◌, Bool, List, [], ◌∷◌, ◌++◌, length, map, None, refl, ap, ◌∙◌, cond}
use Rattle.std.specs.Prelude.{Ok, Err}
use Rattle.std.proofs.lemmas.Bool.{lt-ltb}
use Rattle.raster.specs.declared.row.Color.{Color}
use Rattle.raster.specs.declared.row.Color.TheVariants.{White}
use Rattle.run_tables.specs.declared.fault.CodeFaultKind.{CodeFaultKind}
use Rattle.run_tables.specs.declared.fault.CodeFaultKind.TheVariants.{NoRows, BadCode, TooManyCodedRows}
use Rattle.run_tables.specs.Fronts.{Walk, spell}
use Rattle.run_tables.specs.Fronts.Look.{go, stop, refuse}
use Rattle.run_tables.specs.RunWords.{SpellsRow}
use Rattle.run_tables.specs.RowFronts.{RunItem, RowState, row_begin}
use Rattle.run_tables.specs.RowFronts.{item_word as code_bits, Step as RowStep, look as row_look}
use Rattle.run_tables.specs.RowFronts.RowState.{inside, whole}
use Rattle.run_tables.proofs.FrontWalks.{Way, read_walk, read_seen}
use Rattle.run_tables.proofs.CodeLooks.{step_put, refuse_put}
use Rattle.run_tables.proofs.RowWays.{row_way}
use Rattle.page_code.specs.OneDimension.Fronts.{PageItem, item_word, PageState, put, CodeThere, Step, bits_of_five, ends_with, look_in_row}
use Rattle.page_code.specs.OneDimension.Fronts.{look, reading, MayBegin, CodeBegins}
use Rattle.page_code.specs.OneDimension.Fronts.PageItem.{eol, coded}
use Rattle.page_code.specs.OneDimension.Fronts.PageState.{first, row_start, in_row, row_end}
use Rattle.page_code.proofs.OneDimension.Look.{finds, by_eol_other}

-- items are read
pub reading_walk : (width : ℕ) (items : List PageItem) (s t : PageState) (place : ℕ) (rest : List Bool) → Walk (Step width) s items t
    → reading width s place (spell item_word items ++ rest) ≡ reading width t (place + length (spell item_word items)) rest
unfolding reading
reading_walk width items s t place rest walk = read_walk item_word (Step width) (look width) BadCode (finds width) items s t place rest walk

-- the page ends
pub reading_stop : (width : ℕ) (s : PageState) (place : ℕ) (x : List Bool) (page : List (List Color)) (more : ℕ)
    → look width s x ≡ stop page more → reading width s place x ≡ Ok (page, place + more)
unfolding reading
reading_stop width s place x page more e = read_seen item_word (look width) BadCode s place x (stop page more) e

-- what is refused ends the reading
pub reading_refuse : (width : ℕ) (s : PageState) (place : ℕ) (x : List Bool) (kind : CodeFaultKind) → look width s x ≡ refuse kind
    → reading width s place x ≡ Err (place, kind)
unfolding reading
reading_refuse width s place x kind e = read_seen item_word (look width) BadCode s place x (refuse kind) e

-- a walk in a row is one in the page
pub put_walk : (width : ℕ) (rows : List (List Color)) (codes : List RunItem) (s t : RowState) → Walk (RowStep width) s codes t
    → Walk (Step width) (put rows s) (map coded codes) (put rows t)
put_walk width rows [] s t walk = ap (put rows) walk
put_walk width rows (code ∷ codes) (inside pixels color makeup) t walk = (
  put rows walk.0,
  step_put (put rows) width pixels color makeup
      code walk.0 walk.1,
  put_walk width rows codes walk.0 t walk.2,
)
put_walk width rows (code ∷ codes) (whole row) t walk = absurd walk.1

pub spell-coded : (codes : List RunItem) → spell item_word (map coded codes) ≡ spell code_bits codes
spell-coded [] = refl
spell-coded (code ∷ codes) = ap (λ l. code_bits code ++ l) (spell-coded codes)

-- a row's first code
begin_step : (width : ℕ) (s : PageState) (rows : List (List Color)) (code : RunItem) (t : PageState) → MayBegin s rows
    → CodeThere width rows [] White None code t → Step width s (coded code) t
begin_step width first rows code t may step = rw (← may) at step
begin_step width (row_start before) rows code t may step = (may.0, rw (← may.1) at step)
begin_step width (in_row before pixels color makeup) rows code t may step = absurd may
begin_step width (row_end before) rows code t may step = absurd may

pub begin_walk : (width : ℕ) (s : PageState) (rows : List (List Color)) (code : RunItem) (codes : List RunItem) (t : RowState)
    → MayBegin s rows → Walk (RowStep width) row_begin (code ∷ codes) t → Walk (Step width) s (map coded (code ∷ codes)) (put rows t)
begin_walk width s rows code codes t may walk = (
  put rows walk.0,
  begin_step width s rows code (put rows walk.0) may (step_put (put rows)
      width [] White None code walk.0 walk.1),
  put_walk width rows codes walk.0 t walk.2,
)

-- a row's code words leads over the row
pub put_row : (width : ℕ) (s : PageState) (rows : List (List Color)) (row : List Color) (front : List Bool) → 0 < width → width ≤ 2432
    → MayBegin s rows → length row ≡ width → SpellsRow row front → Way item_word (Step width) s (row_end (rows ++ row ∷ [])) front
put_row width s rows row front some wide may full spells =
    let way = row_way width row front some wide full spells in
    from way.items way.walk way.spelled
  where
    from : (codes : List RunItem) → Walk (RowStep width) row_begin codes (whole row) → spell code_bits codes ≡ front
        → Way item_word (Step width) s (row_end (rows ++ row ∷ [])) front
    from [] walk spelled = absurd (cc walk)
    from (code ∷ codes) walk spelled = record {
      items = map coded (code ∷ codes);
      walk = begin_walk width s rows code codes (whole row) may
          walk;
      spelled = spell-coded (code ∷ codes) ∙ spelled;
    }

-- what is refused at a row's first code
pub begin_refused : (width : ℕ) (s : PageState) (rows : List (List Color)) (x : List Bool) (kind : CodeFaultKind) → MayBegin s rows
    → CodeBegins x → row_look width row_begin x ≡ refuse kind → look width s x ≡ refuse kind
begin_refused width first rows x kind may stands e = by_eol_other x (refuse NoRows) (λ n. go (eol n) (row_start [])) (look_in_row width []
    [] White None x) stands ∙ refuse_put (put []) width [] White None coded x kind e
begin_refused width (row_start before) rows x kind may stands e =
    by_eol_other x (ends_with before 0) (λ n. ends_with before (bits_of_five x)) (cond (ltb (length before) 20000) (look_in_row width before
    [] White None x) (refuse TooManyCodedRows)) stands ∙
    rw (lt-ltb (length before) 20000 may.0) (refuse_put (put before) width [] White None coded x kind e)
begin_refused width (in_row before pixels color makeup) rows x kind may stands e = absurd may
begin_refused width (row_end before) rows x kind may stands e = absurd may

-- what is refused in a row
pub put_refused : (width : ℕ) (rows : List (List Color)) (s : RowState) (x : List Bool) (kind : CodeFaultKind)
    → row_look width s x ≡ refuse kind → look width (put rows s) x ≡ refuse kind
put_refused width rows (inside pixels color makeup) x kind e = refuse_put (put rows) width pixels color makeup coded x kind e
put_refused width rows (whole row) x kind e = cc
