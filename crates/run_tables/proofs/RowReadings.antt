-- Reading a row finds exactly the rows that bits spell, and refuses after the longest front.
use Rattle.std.proofs.Common.{ℕ, suc, ◌≡◌, ◌+◌, ◌<◌, ◌≤◌, Bool, List, [], ◌∷◌, ◌++◌, length, map, refl, ap, sym, ◌∙◌, arith}
use Rattle.std.specs.Prelude.{Ok, Err, Contains}
use Rattle.std.specs.List.{range_with_len}
use Rattle.std.proofs.lemmas.List.FromFn.{get_or-map-range_with_len, length-map-range_with_len}
use Rattle.raster.specs.declared.row.Color.{Color}
use Rattle.raster.specs.Pixels.{IsWidth}
use Rattle.raster.specs.declared.row.Color.TheVariants.{White, Black}
use Rattle.run_tables.specs.declared.fault.CodeFaultKind.{CodeFaultKind}
use Rattle.run_tables.specs.declared.fault.CodeFaultKind.TheVariants.{BadCode}
use Rattle.run_tables.specs.Codes.{codes_of, code_word, run_at, InTable}
use Rattle.run_tables.specs.Fronts.{Finds, Walk, spell}
use Rattle.run_tables.specs.Fronts.Look.{go, stop, refuse}
use Rattle.run_tables.specs.RunWords.{runs_words, SpellsRow}
use Rattle.run_tables.specs.RowFronts.{RunItem, item_word, RowState, row_begin, Step, look, reading, read_row, moved}
use Rattle.run_tables.specs.RowFronts.RowState.{inside, whole}
use Rattle.run_tables.specs.RowLaws.{ReadsAsRow, ReadsExactly, RefusesNoRow, RefusesAtLongest, OneFront, RoundTrip, TableWords}
use Rattle.run_tables.proofs.FrontLaws.{halts}
use Rattle.run_tables.proofs.FrontWalks.{stops, read_go, read_walk, read_seen, read_moved, refused_at, fronts_nested}
use Rattle.run_tables.proofs.CodeLooks.{code_complete, code_sound, code_goes, code_positive}
use Rattle.run_tables.proofs.RowSpelling.{Left, code_left, row_spelled, own_runs_spell}
use Rattle.run_tables.proofs.RowWays.{row_way}

complete : (width : ℕ) (s : RowState) (code : RunItem) (t : RowState) (rest : List Bool) → Step width s code t
    → look width s (item_word code ++ rest) ≡ go code t
complete width (inside pixels color makeup) code t rest step = code_complete (λ code. code) whole inside width pixels color makeup code t
    rest step
complete width (whole row) code t rest step = absurd step

sound : (width : ℕ) (s : RowState) (x : List Bool) (code : RunItem) (t : RowState) → look width s x ≡ go code t
    → Step width s code t × ((rest : List Bool) × (x ≡ item_word code ++ rest))
sound width (inside pixels color makeup) x code t e =
    let there = code_sound (λ code. code) whole inside width pixels color makeup x code t e in
    let step : Step width (inside pixels color makeup) there.0 t = there.2 in
    let split : (rest : List Bool) × (x ≡ item_word there.0 ++ rest) = there.3 in
    (rw there.1 at step, rw there.1 at split)
sound width (whole row) x code t e = cc

positive : (width : ℕ) (s : RowState) (code : RunItem) (t : RowState) → Step width s code t → 0 < length (item_word code)
positive width (inside pixels color makeup) code t step = code_positive color makeup code step.stands
positive width (whole row) code t step = absurd step

-- looking finds exactly the codes that may come
pub finds : (width : ℕ) → Finds item_word (Step width) (look width)
finds width = record {
  sound = λ s x code t e. sound width s x code t e;
  complete = λ s code t rest step. complete width s code t rest step;
  positive = λ s code t step. positive width s code t step;
}

-- a code is read
pub reading_go : (width : ℕ) (s t : RowState) (code : RunItem) (place : ℕ) (rest : List Bool) → Step width s code t
    → reading width s place (item_word code ++ rest) ≡ reading width t (place + length (item_word code)) rest
unfolding reading
reading_go width s t code place rest step = read_go item_word (Step width) (look width) BadCode (finds width) s t code place rest step

-- codes are read
pub reading_walk : (width : ℕ) (codes : List RunItem) (s t : RowState) (place : ℕ) (rest : List Bool) → Walk (Step width) s codes t
    → reading width s place (spell item_word codes ++ rest) ≡ reading width t (place + length (spell item_word codes)) rest
unfolding reading
reading_walk width codes s t place rest walk = read_walk item_word (Step width) (look width) BadCode (finds width) codes s t place rest walk

-- a whole row is the answer
pub reading_stop : (width : ℕ) (row : List Color) (place : ℕ) (x : List Bool) → reading width (whole row) place x ≡ Ok (row, place)
unfolding reading
reading_stop width row place x =
    let same : place + 0 ≡ place = omega arith in
    ap (λ (p : ℕ). Ok (row, p)) same

-- what is refused ends the reading
pub reading_refuse : (width : ℕ) (s : RowState) (place : ℕ) (x : List Bool) (kind : CodeFaultKind) → look width s x ≡ refuse kind
    → reading width s place x ≡ Err (place, kind)
unfolding reading
reading_refuse width s place x kind e = read_seen item_word (look width) BadCode s place x (refuse kind) e

-- reading from a place further on
pub reading_moved : (width : ℕ) (s : RowState) (far place : ℕ) (x : List Bool)
    → reading width s (far + place) x ≡ moved far (reading width s place x)
unfolding reading
reading_moved width s far place x = read_moved item_word (look width) BadCode (suc (length x)) s far place x

-- a row is read from where its code words begin
pub reading_row : (width : ℕ) (row : List Color) (front rest : List Bool) (place : ℕ) → 0 < width → width ≤ 2432 → length row ≡ width
    → SpellsRow row front → reading width row_begin place (front ++ rest) ≡ Ok (row, place + length front)
reading_row width row front rest place some wide full spells =
    let way = row_way width row front some wide full spells in
    ap (λ l. reading width row_begin place (l ++ rest)) (sym way.spelled) ∙
    (reading_walk width way.items row_begin (whole row) place rest way.walk ∙
    (reading_stop width row (place + length (spell item_word way.items)) rest ∙
    ap (λ (l : List Bool). Ok (row, place + length l)) way.spelled))

-- codes that lead to a whole row complete it
pub walk_left : (width : ℕ) (codes : List RunItem) (s : RowState) (row : List Color) → Walk (Step width) s codes (whole row)
    → Left width s row (spell item_word codes)
walk_left width [] s row walk = rw walk (refl, refl)
walk_left width (code ∷ codes) (inside pixels color makeup) row walk = code_left width pixels color makeup code walk.0 row (spell item_word
    codes) walk.1 (walk_left width codes walk.0 row walk.2)
walk_left width (code ∷ codes) (whole pixels) row walk = absurd walk.1

row_end_is : (width : ℕ) (s : RowState) (x : List Bool) (row : List Color) (n : ℕ) → look width s x ≡ stop row n → (s ≡ whole row) × (n ≡ 0)
row_end_is width (inside pixels color makeup) x row n e = absurd (code_goes (λ code. code) whole inside width pixels color makeup x row n e)
row_end_is width (whole pixels) x row n e = (cc, cc)

reads_only : (width : ℕ) (x : List Bool) (row : List Color) (used : ℕ) → IsWidth width → read_row width x ≡ Ok (row, used)
    → ReadsAsRow width x row used
unfolding reading
reads_only width x row used wide e =
    let h = halts item_word (Step width) (look width) BadCode (finds width) (suc (length x)) row_begin 0 x (omega arith) in
    let answer = stops (look width h.end h.rest) (0 + length (spell item_word h.items)) used row (rw e at h.answers) in
    let end = row_end_is width h.end h.rest row answer.0 answer.1 in
    let spelled = row_spelled width row (spell item_word h.items) wide (walk_left width h.items row_begin row (rw end.0 at h.walk)) in
    record {
      front = spell item_word h.items;
      rest = h.rest;
      spells = spelled.0;
      wide = spelled.1;
      split = h.spelled;
      used_is = omega
          (arith, answer.2, end.1);
    }

reads_all : (width : ℕ) (x : List Bool) (row : List Color) (used : ℕ) → 0 < width → width ≤ 2432 → ReadsAsRow width x row used
    → read_row width x ≡ Ok (row, used)
reads_all width x row used some wide reads =
    let same : 0 + length reads.front ≡ used = omega (arith, reads.used_is) in
    ap (reading width row_begin 0) reads.split ∙ (reading_row width row reads.front reads.rest 0 some wide reads.wide reads.spells ∙
    ap (λ (n : ℕ). Ok (row, n)) same)

pub reads_rows_exactly : ReadsExactly
reads_rows_exactly width x row used wide = (
  λ e. reads_only width x row used wide e,
  λ reads. reads_all width x row used
      (omega (arith, wide.0)) wide.1 reads,
)

pub refuses_no_row : RefusesNoRow
refuses_no_row width x place kind row used wide e reads = let read = reads_all width x row used (omega (arith, wide.0)) wide.1 reads in cc

pub refuses_at_longest : RefusesAtLongest
unfolding reading
refuses_at_longest width x place kind e = refused_at item_word (Step width) (look width) BadCode (finds width) row_begin x place kind e

pub one_front : OneFront
one_front width x codes others one two = fronts_nested item_word (Step width) (look width) BadCode (finds width) row_begin x codes others
    one two

pub reads_own_runs : RoundTrip
reads_own_runs row runs rest wide own = reads_all (length row) (runs_words White runs ++ rest) row (length (runs_words White runs)) (omega
    (arith, wide.0)) wide.1 (record {
      front = runs_words White runs;
      rest = rest;
      spells = own_runs_spell row runs wide own;
      wide = refl;
      split = refl;
      used_is = refl;
    })

-- The table

table_is : (color : Color) → codes_of color ≡ map (λ place. (run_at place, code_word color (run_at place))) (range_with_len 0 104)
unfolding code_word
table_is White = refl
table_is Black = refl

abbrev code_at : Color → ℕ → ℕ × List Bool
code_at color place = (run_at place, code_word color (run_at place))

pub table_words : TableWords
table_words color run bits = (from, to)
  where
    from : InTable color run bits → (place : ℕ) × (place < 104) × (run ≡ run_at place) × (bits ≡ code_word color (run_at place))
    from c =
        let there : Contains (map (code_at color) (range_with_len 0 104)) (run, bits) = rw (table_is color) at c in
        let within : there.0 < 104 = omega (arith, there.1, length-map-range_with_len (code_at color) 0 104) in
        let same : ◌≡◌ {A = ℕ × List Bool} (run, bits) (code_at color there.0) = sym there.2 ∙
        get_or-map-range_with_len (code_at color) 0 104 there.0 there.0 (run, bits) within (omega arith) in
        (there.0, within, ap (λ (code : ℕ × List Bool). code.0) same, ap (λ (code : ℕ × List Bool). code.1) same)

    to : ((place : ℕ) × (place < 104) × (run ≡ run_at place) × (bits ≡ code_word color (run_at place))) → InTable color run bits
    to at =
        let same : ◌≡◌ {A = ℕ × List Bool} (code_at color at.0) (run, bits) = cc (at.2, at.3) in
        let there : Contains (map (code_at color) (range_with_len 0 104)) (run, bits) = (
          at.0,
          omega (
            arith,
            at.1,
            length-map-range_with_len
                (code_at color) 0 104,
          ),
          get_or-map-range_with_len (code_at color) 0 104 at.0 at.0 (run, bits) at.1 (omega arith) ∙ same,
        ) in
        rw (table_is color) there
