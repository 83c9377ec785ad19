-- Looking into the bits of a T.6 page finds exactly the items that may be there.
use Rattle.std.proofs.Common.{ltb, ℕ, ◌≡◌, ◌<◌, Bool, true, false, ◌&&◌, not, List, [], ◌∷◌, ◌++◌, map, length, drop, Some, None, refl, ap}
use Rattle.std.proofs.Common.{subst, ◌∙◌, cond}
use Rattle.std.specs.Prelude.{Option, Contains, Result, Ok, Err}
use Rattle.std.specs.List.{list_all}
use Rattle.std.proofs.lemmas.Bool.{and_parts, not-true, ltb-true, lt-ltb}
use Rattle.raster.specs.declared.row.Color.{Color}
use Rattle.run_tables.specs.declared.fault.CodeFaultKind.{CodeFaultKind}
use Rattle.run_tables.specs.declared.fault.CodeFaultKind.TheVariants.{Truncated, MissingEofb, TooManyCodedRows}
use Rattle.run_tables.specs.Texts.{begins, apart, pick, all_zero}
use Rattle.run_tables.specs.Fronts.{Finds}
use Rattle.run_tables.specs.Fronts.Look.{go, stop, refuse}
use Rattle.run_tables.specs.RowFronts.{RunItem, run_of, allowed, judged}
use Rattle.run_tables.specs.RowFronts.{item_word as run_item_word}
use Rattle.run_tables.proofs.BeginsLemmas.{all_test, pick_found, pick_sound}
use Rattle.run_tables.proofs.CodeLooks.{allowed_apart, code_positive}
use Rattle.page_code.specs.TwoDimensions.Positions.{CodingLine, line_begin}
use Rattle.page_code.specs.TwoDimensions.Modes.{eofb}
use Rattle.page_code.specs.declared.t6.mode.ModeCode.{ModeCode}
use Rattle.page_code.specs.TwoDimensions.Fronts.{mode_word, mode_codes, PageItem, page_item_word, PageSoFar, PageState, after_mode}
use Rattle.page_code.specs.TwoDimensions.Fronts.{after_run, run_color, ModeStep, RunStep, PageStep, found_mode, look_mode, found_run}
use Rattle.page_code.specs.TwoDimensions.Fronts.{look_run, page_end, page_look}
use Rattle.page_code.specs.TwoDimensions.Fronts.PageItem.{mode_item, run_item}
use Rattle.page_code.specs.TwoDimensions.Fronts.PageState.{between, inside, running}

-- of no two mode codes one begins the other
pub modes_apart : apart (map mode_word mode_codes) ≡ true
modes_apart = refl

-- each has a bit
abbrev has_bit : ModeCode → Bool
has_bit code = ltb 0 (length (mode_word code))

modes_have_bits : list_all has_bit mode_codes ≡ true
modes_have_bits = refl

mode_positive : (code : ModeCode) → Contains mode_codes code → 0 < length (mode_word code)
mode_positive code stands = ltb-true 0 (length (mode_word code)) (all_test has_bit mode_codes code modes_have_bits stands)

-- no mode code is taken for EOFB, for a beginning of it or for only 0 bits
abbrev is_plain : List Bool → ModeCode → Bool
is_plain rest code = not (begins eofb (mode_word code ++ rest)) && (not (all_zero (mode_word code ++ rest)) && not (begins (mode_word code
    ++ rest) eofb))

modes_plain : (rest : List Bool) → list_all (is_plain rest) mode_codes ≡ true
modes_plain rest = refl

judged_goes : (j i : PageItem) (t : PageState) (r : Result PageState CodeFaultKind) → judged {Answer = List (List Color)} j r ≡ go i t
    → (j ≡ i) × (r ≡ Ok t)
judged_goes j i t (Ok u) e = (cc, cc)
judged_goes j i t (Err k) e = cc

-- Mode codes

pub mode_complete : (width : ℕ) (page : PageSoFar) (line : CodingLine) (code : ModeCode) (t : PageState) (rest : List Bool)
    → ModeStep width page line code t → look_mode width page line (mode_word code ++ rest) ≡ go (mode_item code) t
unfolding look_mode
mode_complete width page line code t rest step =
    ap (found_mode width page line (mode_word code ++ rest)) (pick_found mode_word mode_codes code rest modes_apart step.stands) ∙
    ap (judged (mode_item code)) step.leads

abbrev ModeSeen : ℕ → PageSoFar → CodingLine → List Bool → PageItem → PageState → Type 0
ModeSeen width page line x i t = (code : ModeCode) × (mode_item code ≡ i) × ModeStep width page line code t × ((rest : List Bool)
    × (x ≡ mode_word code ++ rest))

found_mode_sound : (width : ℕ) (page : PageSoFar) (line : CodingLine) (x : List Bool) (i : PageItem) (t : PageState) (o : Option ModeCode) →
    pick mode_word mode_codes x ≡ o → found_mode width page line x o ≡ go i t → ModeSeen width page line x i t
found_mode_sound width page line x i t None p e = cc
found_mode_sound width page line x i t (Some code) p e =
    let lead = judged_goes (mode_item code) i t (after_mode width page line code) e in
    let there = pick_sound mode_word mode_codes code x p in
    (code, lead.0, record { stands = there.0; leads = lead.1 }, (drop (length (mode_word code)) x, there.1))

mode_sound : (width : ℕ) (page : PageSoFar) (line : CodingLine) (x : List Bool) (i : PageItem) (t : PageState)
    → look_mode width page line x ≡ go i t → ModeSeen width page line x i t
unfolding look_mode
mode_sound width page line x i t e = found_mode_sound width page line x i t (pick mode_word mode_codes x) refl e

judged_never_stops : (j : PageItem) (r : Result PageState CodeFaultKind) (rows : List (List Color)) (n : ℕ) → judged j r ≡ stop rows n → ⊥
judged_never_stops j (Ok t) rows n e = cc
judged_never_stops j (Err k) rows n e = cc

found_mode_never_stops : (width : ℕ) (page : PageSoFar) (line : CodingLine) (x : List Bool) (rows : List (List Color)) (n : ℕ) (o : Option
    ModeCode) → found_mode width page line x o ≡ stop rows n → ⊥
found_mode_never_stops width page line x rows n None e = cc
found_mode_never_stops width page line x rows n (Some code) e = judged_never_stops (mode_item code) (after_mode width page line code) rows n
    e

pub mode_never_stops : (width : ℕ) (page : PageSoFar) (line : CodingLine) (x : List Bool) (rows : List (List Color)) (n : ℕ)
    → look_mode width page line x ≡ stop rows n → ⊥
unfolding look_mode
mode_never_stops width page line x rows n e = found_mode_never_stops width page line x rows n (pick mode_word mode_codes x) e

-- Run codes

pub run_complete : (width : ℕ) (page : PageSoFar) (line : CodingLine) (first makeup : Option ℕ) (code : RunItem) (t : PageState) (rest :
    List Bool) → RunStep width page line first makeup code t
    → look_run width page line first makeup (run_item_word code ++ rest) ≡ go (run_item code) t
unfolding look_run
run_complete width page line first makeup code t rest step =
    ap (found_run width page line first makeup (run_item_word code ++ rest)) (pick_found run_item_word (allowed (run_color line first)
    makeup) code rest (allowed_apart (run_color line first) makeup) step.stands) ∙ ap (judged (run_item code)) step.leads

abbrev RunSeen : ℕ → PageSoFar → CodingLine → Option ℕ → Option ℕ → List Bool → PageItem → PageState → Type 0
RunSeen width page line first makeup x i t = (code : RunItem) × (run_item code ≡ i) × RunStep width page line first makeup code t
    × ((rest : List Bool) × (x ≡ run_item_word code ++ rest))

found_run_sound : (width : ℕ) (page : PageSoFar) (line : CodingLine) (first makeup : Option ℕ) (x : List Bool) (i : PageItem) (t :
    PageState) (o : Option RunItem) → pick run_item_word (allowed (run_color line first) makeup) x ≡ o
    → found_run width page line first makeup x o ≡ go i t → RunSeen width page line first makeup x i t
found_run_sound width page line first makeup x i t None p e = cc
found_run_sound width page line first makeup x i t (Some code) p e =
    let lead = judged_goes (run_item code) i t (after_run width page line first makeup (run_of code)) e in
    let there = pick_sound run_item_word (allowed (run_color line first) makeup) code x p in
    (code, lead.0, record { stands = there.0; leads = lead.1 }, (drop (length (run_item_word code)) x, there.1))

run_sound : (width : ℕ) (page : PageSoFar) (line : CodingLine) (first makeup : Option ℕ) (x : List Bool) (i : PageItem) (t : PageState)
    → look_run width page line first makeup x ≡ go i t → RunSeen width page line first makeup x i t
unfolding look_run
run_sound width page line first makeup x i t e = found_run_sound width page line first makeup x i t (pick run_item_word (allowed (run_color
    line first) makeup) x) refl e

found_run_never_stops : (width : ℕ) (page : PageSoFar) (line : CodingLine) (first makeup : Option ℕ) (x : List Bool) (rows : List (List
    Color)) (n : ℕ) (o : Option RunItem) → found_run width page line first makeup x o ≡ stop rows n → ⊥
found_run_never_stops width page line first makeup x rows n None e = cc
found_run_never_stops width page line first makeup x rows n (Some code) e = judged_never_stops (run_item code) (after_run width page line
    first makeup (run_of code)) rows n e

pub run_never_stops : (width : ℕ) (page : PageSoFar) (line : CodingLine) (first makeup : Option ℕ) (x : List Bool) (rows : List (List
    Color)) (n : ℕ) → look_run width page line first makeup x ≡ stop rows n → ⊥
unfolding look_run
run_never_stops width page line first makeup x rows n e = found_run_never_stops width page line first makeup x rows n (pick run_item_word
    (allowed (run_color line first) makeup) x) e

-- All items

-- where a mode code is between rows, a row begins
pub row_begins : (width : ℕ) (page : PageSoFar) (code : ModeCode) (rest : List Bool) → length page.rows < 20000
    → Contains mode_codes code → page_look width (between page) (mode_word code ++ rest) ≡ look_mode width page line_begin (mode_word code
    ++ rest)
row_begins width page code rest room stands =
    let test = all_test (is_plain rest) mode_codes code (modes_plain rest) stands in
    let one = and_parts (not (begins eofb (mode_word code ++ rest))) (not (all_zero (mode_word code ++ rest)) && not (begins (mode_word code
    ++ rest) eofb)) test in
    let two = and_parts (not (all_zero (mode_word code ++ rest))) (not (begins (mode_word code ++ rest) eofb)) one.1 in
    let a : begins eofb (mode_word code ++ rest) ≡ false = not-true _ one.0 in
    let b : all_zero (mode_word code ++ rest) ≡ false = not-true _ two.0 in
    let c : begins (mode_word code ++ rest) eofb ≡ false = not-true _ two.1 in
    let d : ltb (length page.rows) 20000 ≡ true = lt-ltb (length page.rows) 20000 room in
    rw (a, b, c, d) refl

complete : (width : ℕ) (s : PageState) (i : PageItem) (t : PageState) (rest : List Bool) → PageStep width s i t
    → page_look width s (page_item_word i ++ rest) ≡ go i t
complete width (between page) (mode_item code) t rest step = row_begins width page code rest step.0 step.1.stands ∙
    mode_complete width page line_begin code t rest step.1
complete width (inside page line) (mode_item code) t rest step = mode_complete width page line code t rest step
complete width (running page line first makeup) (mode_item code) t rest step = absurd step
complete width (between page) (run_item code) t rest step = absurd step
complete width (inside page line) (run_item code) t rest step = absurd step
complete width (running page line first makeup) (run_item code) t rest step = run_complete width page line first makeup code t rest step

between_sound : (width : ℕ) (page : PageSoFar) (x : List Bool) (i : PageItem) (t : PageState)
    → page_look width (between page) x ≡ go i t → (length page.rows < 20000) × (look_mode width page line_begin x ≡ go i t)
between_sound width page x i t e = seen (begins eofb x) (all_zero x) (begins x eofb) (ltb (length page.rows) 20000) refl e
  where
    no_end : (rows : List (List Color)) → page_end rows ≡ go i t → ⊥
    no_end [] e = cc
    no_end (row ∷ rows) e = cc

    seen : (a b c d : Bool) → ltb (length page.rows) 20000 ≡ d
        → cond a (page_end page.rows) (cond b (refuse MissingEofb) (cond c (refuse Truncated) (cond d (look_mode width page line_begin x)
        (refuse TooManyCodedRows)))) ≡ go i t → (length page.rows < 20000) × (look_mode width page line_begin x ≡ go i t)
    seen true b c d room e = absurd (no_end page.rows e)
    seen false true c d room e = cc
    seen false false true d room e = cc
    seen false false false false room e = cc
    seen false false false true room e = (ltb-true (length page.rows) 20000 room, e)

abbrev Seen : ℕ → PageState → List Bool → PageItem → PageState → Type 0
Seen width s x i t = PageStep width s i t × ((rest : List Bool) × (x ≡ page_item_word i ++ rest))

sound : (width : ℕ) (s : PageState) (x : List Bool) (i : PageItem) (t : PageState) → page_look width s x ≡ go i t → Seen width s x i t
sound width (between page) x i t e =
    let row = between_sound width page x i t e in
    let there = mode_sound width page line_begin x i t row.1 in
    subst (λ j. Seen width (between page) x j t) there.1 ((row.0, there.2), there.3)
sound width (inside page line) x i t e =
    let there = mode_sound width page line x i t e in
    subst (λ j. Seen width (inside page line) x j t) there.1 (there.2, there.3)
sound width (running page line first makeup) x i t e =
    let there = run_sound width page line first makeup x i t e in
    subst (λ j. Seen width (running page line first makeup) x j t) there.1 (there.2, there.3)

positive : (width : ℕ) (s : PageState) (i : PageItem) (t : PageState) → PageStep width s i t → 0 < length (page_item_word i)
positive width (between page) (mode_item code) t step = mode_positive code step.1.stands
positive width (inside page line) (mode_item code) t step = mode_positive code step.stands
positive width (running page line first makeup) (mode_item code) t step = absurd step
positive width (between page) (run_item code) t step = absurd step
positive width (inside page line) (run_item code) t step = absurd step
positive width (running page line first makeup) (run_item code) t step = code_positive (run_color line first) makeup code step.stands

-- looking finds exactly the items that may come
pub finds : (width : ℕ) → Finds page_item_word (PageStep width) (page_look width)
finds width = record {
  sound = λ s x i t e. sound width s x i t e;
  complete = λ s i t rest step. complete width s i t rest step;
  positive = λ s i t step. positive width s i t step;
}
