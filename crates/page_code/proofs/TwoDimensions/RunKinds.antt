-- Why a T.6 page goes no further where a run code of horizontal mode has to be: what looking sees is what the sentences of the kinds say.
use Rattle.std.proofs.Common.{ltb, ℕ, ◌≡◌, ◌+◌, ◌<◌, inl, inr, Bool, true, false, List, ◌++◌, length, Some, None, refl}
use Rattle.std.proofs.Common.{ap, sym, ◌∙◌, subst, arith, cond, nat_eq}
use Rattle.std.specs.Prelude.{Option, Result, Ok, Err}
use Rattle.std.specs.Option.{option_map}
use Rattle.std.proofs.lemmas.Bool.{lt-ltb, le-ltb, ltb-true, eqb-true}
use Rattle.raster.specs.declared.row.Color.{Color}
use Rattle.raster.specs.Pixels.{other}
use Rattle.run_tables.specs.declared.fault.CodeFaultKind.{CodeFaultKind}
use Rattle.run_tables.specs.declared.fault.CodeFaultKind.TheVariants.{NoRows, NoMemory, BadCode, Truncated, RunTooLong, Backwards, PastEnd}
use Rattle.run_tables.specs.declared.fault.CodeFaultKind.TheVariants.{EmptyHorizontal, Extension, MissingEofb, TooManyCodedRows}
use Rattle.run_tables.specs.declared.reader.Among.{Among}
use Rattle.run_tables.specs.declared.reader.Among.TheVariants.{AllCodes}
use Rattle.run_tables.specs.Codes.{InTable, code_word}
use Rattle.run_tables.specs.CodeReading.{runs_among, kind_among, IsNext}
use Rattle.run_tables.specs.Kinds.{CodeKind}
use Rattle.run_tables.specs.Kinds.{BeginsWithCode as BeginsWithRun, EndsInCode as EndsInRun}
use Rattle.run_tables.specs.Texts.{pick, is_cut}
use Rattle.run_tables.specs.Fronts.Look.{refuse}
use Rattle.run_tables.specs.RowFronts.{allowed, amount, judged}
use Rattle.run_tables.specs.RowFronts.{item_word as run_item_word}
use Rattle.run_tables.specs.RowFronts.RunItem.{run_item as run_code}
use Rattle.run_tables.proofs.CodeReads.{pick_stands, stands_pick, none_stands}
use Rattle.run_tables.proofs.CodeKinds.{begins_next, next_begins, code_kind, kind_none, kind_is}
use Rattle.run_tables.proofs.CodeLooks.{pick_items, cut_items}
use Rattle.page_code.specs.TwoDimensions.Positions.{CodingLine}
use Rattle.page_code.specs.TwoDimensions.Modes.{runs_added}
use Rattle.page_code.specs.TwoDimensions.Fronts.{PageItem, PageSoFar, PageState, mode_ended, run_color, run_ended, after_run, found_run}
use Rattle.page_code.specs.TwoDimensions.Fronts.{look_run}
use Rattle.page_code.specs.TwoDimensions.Fronts.PageItem.{run_item}
use Rattle.page_code.specs.TwoDimensions.Fronts.PageState.{running}
use Rattle.page_code.specs.TwoDimensions.Kinds.{among_after, BeginsWithCode, EndsInCode, EndsEmpty, IsNamed, PageKind}
use Rattle.page_code.proofs.TwoDimensions.Standing.{HasPixels, InRow}

-- which code is picked, and which is cut off
run_picked : (color : Color) (makeup : Option ℕ) (x : List Bool)
    → pick run_item_word (allowed color makeup) x ≡ option_map (run_code color) (pick (code_word color) (runs_among (among_after makeup)) x)
run_picked color None x = pick_items color 104 x
run_picked color (Some makeup) x = pick_items color 64 x

run_cut : (color : Color) (makeup : Option ℕ) (x : List Bool)
    → is_cut run_item_word (allowed color makeup) x ≡ is_cut (code_word color) (runs_among (among_after makeup)) x
run_cut color None x = cut_items color 104 x
run_cut color (Some makeup) x = cut_items color 64 x

module _ (width : ℕ) (page : PageSoFar) (line : CodingLine) (first makeup : Option ℕ) (x : List Bool) where
  abbrev place : PageState
  place = running page line first makeup

  abbrev NoRun : Type 0
  NoRun = (run : ℕ) → ¬ IsNext (run_color line first) (among_after makeup) x run

  begins_run : BeginsWithCode place x → (run : ℕ) × IsNext (run_color line first) (among_after makeup) x run
  begins_run b = (b.2.0, begins_next (run_color line first) (among_after makeup) x b.2.0 (b.0, b.1, b.2.1, b.3))

  run_begins : (run : ℕ) → IsNext (run_color line first) (among_after makeup) x run → BeginsWithCode place x
  run_begins run next =
      let b : BeginsWithRun (run_color line first) (among_after makeup) x run = next_begins (run_color line first) (among_after makeup) x
      run
      next in
      (b.0, b.1, (run, b.2), b.3)

  ends_run : EndsInCode place x → EndsInRun (run_color line first) (among_after makeup) x
  ends_run e = (e.3.0, e.0, e.1, e.2, e.3.1, e.4)

  run_ends : EndsInRun (run_color line first) (among_after makeup) x → EndsInCode place x
  run_ends e = (e.1, e.2, e.3, (e.0, e.4), e.5)

  -- where no code begins the bits no code word is refused
  empty_begins : (word rest : List Bool) → x ≡ word ++ rest → (f m : Option ℕ) → f ≡ first → m ≡ makeup
      → EndsEmpty (running page line f m) word → (run : ℕ) × IsNext (run_color line first) (among_after makeup) x run
  empty_begins word rest is (Some a0a1) None fs ms e =
      let there : InTable (run_color line (Some a0a1)) 0 word = e.1 in
      subst (λ (f : Option ℕ). (run : ℕ) × IsNext (run_color line f) (among_after makeup) x run) fs (subst (λ (m : Option ℕ). (run : ℕ)
      × IsNext (run_color line (Some a0a1)) (among_after m) x run) ms (
        0,
        begins_next (run_color line (Some a0a1)) AllCodes x 0 (word, rest, there, is),
      ))
  empty_begins word rest is None m fs ms e = absurd e
  empty_begins word rest is (Some a0a1) (Some k) fs ms e = absurd e

  unnamed : NoRun → (kind : CodeFaultKind) → IsNamed width place x kind → ⊥
  unnamed none NoRows is = absurd is.2
  unnamed none NoMemory is = absurd is.2
  unnamed none BadCode is = absurd is.2
  unnamed none Truncated is = absurd is.2
  unnamed none RunTooLong is = absurd is.2
  unnamed none Backwards is = absurd is.2.3.1
  unnamed none PastEnd is = elim is.2 [
    | inl past ↦ absurd past.3.1
    | inr run ↦ none run.0 (begins_next (run_color line first) (among_after makeup) x run.0 (is.0, is.1, run.1, is.3))
  ]
  unnamed none EmptyHorizontal is =
      let there = empty_begins is.0 is.1 is.3 first makeup refl refl is.2 in
      none there.0 there.1
  unnamed none Extension is = absurd is.2.2
  unnamed none MissingEofb is = absurd is
  unnamed none TooManyCodedRows is = absurd is

  -- no code is there
  no_code_kind : NoRun → (k : CodeFaultKind) → CodeKind (run_color line first) (among_after makeup) x k → PageKind width place x k
  no_code_kind none Truncated is = (run_ends is, unnamed none)
  no_code_kind none BadCode is = (
    λ b. (let there = begins_run b in none there.0 there.1),
    λ e. is.1 (ends_run e),
    unnamed none,
  )
  no_code_kind none NoRows is = absurd is
  no_code_kind none NoMemory is = absurd is
  no_code_kind none RunTooLong is = absurd is
  no_code_kind none Backwards is = absurd is
  no_code_kind none PastEnd is = absurd is
  no_code_kind none EmptyHorizontal is = absurd is
  no_code_kind none Extension is = absurd is
  no_code_kind none MissingEofb is = absurd is
  no_code_kind none TooManyCodedRows is = absurd is

-- a second run of 0 after a first of 0
empty_kind : (width : ℕ) (page : PageSoFar) (line : CodingLine) (a0a1 : ℕ) (makeup : Option ℕ) (x : List Bool) (run : ℕ) → HasPixels makeup
    → IsNext (other line.color) (among_after makeup) x run → a0a1 + (amount makeup + run) ≡ 0
    → PageKind width (running page line (Some a0a1) makeup) x EmptyHorizontal
empty_kind width page line a0a1 None x run h next e =
    let b : BeginsWithRun (other line.color) AllCodes x run = next_begins (other line.color) AllCodes x run next in
    let none : run ≡ 0 = omega arith in
    (b.0, b.1, (omega arith, subst (λ n. InTable (other line.color) n b.0) none b.2), b.3)
empty_kind width page line a0a1 (Some m) x run h next e = absurd (omega arith)

ended_kind : (width : ℕ) (page : PageSoFar) (line : CodingLine) (first makeup : Option ℕ) (x : List Bool) (run : ℕ) (k : CodeFaultKind)
    → HasPixels makeup → IsNext (run_color line first) (among_after makeup) x run
    → run_ended width page line first (amount makeup + run) ≡ Err k → PageKind width (running page line first makeup) x k
ended_kind width page line None makeup x run k h next e = cc
ended_kind width page line (Some a0a1) makeup x run k h next e = seen (nat_eq (a0a1 + (amount makeup + run)) 0) refl e
  where
    seen : (b : Bool) → nat_eq (a0a1 + (amount makeup + run)) 0 ≡ b
        → cond b (Err EmptyHorizontal) (Ok (mode_ended width page (runs_added line a0a1 (amount makeup + run)))) ≡ Err k
        → PageKind width (running page line (Some a0a1) makeup) x k
    seen true is e =
        let same : EmptyHorizontal ≡ k = cc in
        subst (PageKind width (running page line (Some a0a1) makeup) x) same (empty_kind width page line a0a1 makeup x run h next (eqb-true
        (a0a1 + (amount makeup + run)) 0 is))
    seen false is e = cc

after_kind : (width : ℕ) (page : PageSoFar) (line : CodingLine) (first makeup : Option ℕ) (x : List Bool) (run : ℕ) (k : CodeFaultKind)
    → HasPixels makeup → IsNext (run_color line first) (among_after makeup) x run → after_run width page line first makeup run ≡ Err k
    → PageKind width (running page line first makeup) x k
unfolding after_run
after_kind width page line first makeup x run k h next e = seen (ltb width (length line.pixels + amount first + (amount makeup + run))) (ltb
    run 64) refl e
  where
    seen : (a b : Bool) → ltb width (length line.pixels + amount first + (amount makeup + run)) ≡ a
        → cond a (Err PastEnd) (cond b (run_ended width page line first (amount makeup + run)) (Ok (running page line first (Some run)))) ≡
        Err k → PageKind width (running page line first makeup) x k
    seen true b is e =
        let same : PastEnd ≡ k = cc in
        let there : BeginsWithRun (run_color line first) (among_after makeup) x run = next_begins (run_color line first) (among_after
        makeup) x
        run next in
        subst (PageKind width (running page line first makeup) x) same (
          there.0,
          there.1,
          inr (run, there.2, ltb-true width (length line.pixels + amount first + (amount makeup + run)) is),
          there.3,
        )
    seen false true is e = ended_kind width page line first makeup x run k h next e
    seen false false is e = cc

run_judged : (i : PageItem) (r : Result PageState CodeFaultKind) (k : CodeFaultKind)
    → judged {Answer = List (List Color)} i r ≡ refuse k → r ≡ Err k
run_judged i (Ok t) k e = cc
run_judged i (Err j) k e = cc

-- a refusal that is looked at has the kind of its sentence
pub run_look_kind : (width : ℕ) (page : PageSoFar) (line : CodingLine) (first makeup : Option ℕ) (x : List Bool) (k : CodeFaultKind)
    → HasPixels makeup → look_run width page line first makeup x ≡ refuse k → PageKind width (running page line first makeup) x k
unfolding look_run
run_look_kind width page line first makeup x k h e = seen (pick (code_word color) (runs_among among) x) refl (ap (found_run width page line
    first makeup x) (sym (run_picked color makeup x)) ∙ e)
  where
    color : Color
    color = run_color line first

    among : Among
    among = among_after makeup

    seen : (o : Option ℕ) → pick (code_word (run_color line first)) (runs_among (among_after makeup)) x ≡ o
        → found_run width page line first makeup x (option_map (run_code (run_color line first)) (pick (code_word (run_color line first))
        (runs_among (among_after makeup)) x)) ≡ refuse k → PageKind width (running page line first makeup) x k
    seen None p e =
        let none = none_stands (run_color line first) (among_after makeup) x p in
        let here : found_run width page line first makeup x None ≡ refuse k = ap (λ o. found_run width page line first makeup x (option_map
        (run_code (run_color line first)) o)) (sym p) ∙ e in
        let cut : cond (is_cut run_item_word (allowed (run_color line first) makeup) x) Truncated BadCode ≡ k = cc in
        let kind : kind_among (run_color line first) (among_after makeup) x ≡ k = ap (λ b. cond b Truncated BadCode) (sym (run_cut
        (run_color
        line first) makeup x)) ∙ cut in
        no_code_kind width page line first makeup x none k (subst (CodeKind (run_color line first) (among_after makeup) x) kind (code_kind
        (run_color line first) (among_after makeup) x none))
    seen (Some run) p e =
        let here : found_run width page line first makeup x (Some (run_code (run_color line first) run)) ≡ refuse k = ap (λ o. found_run
        width
        page line first makeup x (option_map (run_code (run_color line first)) o)) (sym p) ∙ e in
        after_kind width page line first makeup x run k h (stands_pick (run_color line first) (among_after makeup) x run p) (run_judged
        (run_item (run_code (run_color line first) run)) (after_run width page line first makeup run) k here)

-- ---- what a sentence says is looked at

-- the code that is next
next_looks : (width : ℕ) (page : PageSoFar) (line : CodingLine) (first makeup : Option ℕ) (x : List Bool) (run : ℕ) (k : CodeFaultKind)
    → IsNext (run_color line first) (among_after makeup) x run → after_run width page line first makeup run ≡ Err k
    → look_run width page line first makeup x ≡ refuse k
unfolding look_run
next_looks width page line first makeup x run k next e =
    ap (found_run width page line first makeup x) (run_picked (run_color line first) makeup x ∙
    ap (option_map (run_code (run_color line first))) (pick_stands (run_color line first) (among_after makeup) x run next)) ∙
    ap (judged (run_item (run_code (run_color line first) run))) e

-- no code is next
missing_run : (width : ℕ) (page : PageSoFar) (line : CodingLine) (first makeup : Option ℕ) (x : List Bool) (k : CodeFaultKind)
    → CodeKind (run_color line first) (among_after makeup) x k → look_run width page line first makeup x ≡ refuse k
unfolding look_run
missing_run width page line first makeup x k is =
    let none = kind_none (run_color line first) (among_after makeup) x k is in
    let kind : kind_among (run_color line first) (among_after makeup) x ≡ k = kind_is (run_color line first) (among_after makeup) x k is in
    ap (found_run width page line first makeup x) (run_picked (run_color line first) makeup x ∙
    ap (option_map (run_code (run_color line first))) (none_picked none (pick (code_word (run_color line first)) (runs_among (among_after
    makeup)) x) refl)) ∙ ap refuse (ap (λ b. cond b Truncated BadCode) (run_cut (run_color line first) makeup x) ∙ kind)
  where
    none_picked : ((run : ℕ) → ¬ IsNext (run_color line first) (among_after makeup) x run) → (o : Option ℕ)
        → pick (code_word (run_color line first)) (runs_among (among_after makeup)) x ≡ o → o ≡ None
    none_picked none None p = refl
    none_picked none (Some run) p = absurd (none run (stands_pick (run_color line first) (among_after makeup) x run p))

-- a code that passes the width
past_run : (width : ℕ) (page : PageSoFar) (line : CodingLine) (first makeup : Option ℕ) (x : List Bool) (run : ℕ)
    → IsNext (run_color line first) (among_after makeup) x run → width < length line.pixels + amount first + (amount makeup + run)
    → look_run width page line first makeup x ≡ refuse PastEnd
unfolding after_run
past_run width page line first makeup x run next more = next_looks width page line first makeup x run PastEnd next (rw (lt-ltb width (length
    line.pixels + amount first + (amount makeup + run)) more) refl)

-- two runs of 0
empty_run : (width : ℕ) (page : PageSoFar) (line : CodingLine) (x word rest : List Bool) → length line.pixels < width
    → InTable (other line.color) 0 word → x ≡ word ++ rest → look_run width page line (Some 0) None x ≡ refuse EmptyHorizontal
unfolding after_run
empty_run width page line x word rest short there is = next_looks width page line (Some 0) None x 0 EmptyHorizontal (begins_next (other
    line.color) AllCodes x 0 (word, rest, there, is)) (rw (le-ltb width (length line.pixels + 0 + (0 + 0)) (omega arith)) refl)

pub run_kind_looks : (width : ℕ) (page : PageSoFar) (line : CodingLine) (first makeup : Option ℕ) (x : List Bool) (k : CodeFaultKind)
    → InRow width page line → PageKind width (running page line first makeup) x k → look_run width page line first makeup x ≡ refuse k
run_kind_looks width page line first makeup x Truncated row is = missing_run width page line first makeup x Truncated (ends_run width page
    line first makeup x is.0)
run_kind_looks width page line first makeup x BadCode row is = missing_run width page line first makeup x BadCode (
  λ run b. is.0 (b.0, b.1, (run, b.2), b.3),
  λ e. is.1 (run_ends width page line first makeup x e),
)
run_kind_looks width page line first makeup x PastEnd row is = elim is.2 [
  | inl past ↦ absurd past.3.1
  | inr run ↦ past_run width page line first makeup x run.0 (begins_next (run_color line first) (among_after makeup) x run.0 (
    is.0,
    is.1,
    run.1,
    is.3,
  )) run.2
]
run_kind_looks width page line (Some a0a1) None x EmptyHorizontal row is = subst (λ n. look_run width page line (Some n) None x ≡ refuse
    EmptyHorizontal) (sym is.2.0) (empty_run width page line x is.0 is.1 row.short is.2.1 is.3)
run_kind_looks width page line None makeup x EmptyHorizontal row is = absurd is.2
run_kind_looks width page line (Some a0a1) (Some m) x EmptyHorizontal row is = absurd is.2
run_kind_looks width page line first makeup x NoRows row is = absurd is.2
run_kind_looks width page line first makeup x NoMemory row is = absurd is.2
run_kind_looks width page line first makeup x RunTooLong row is = absurd is.2
run_kind_looks width page line first makeup x Backwards row is = absurd is.2.3.1
run_kind_looks width page line first makeup x Extension row is = absurd is.2.2
run_kind_looks width page line first makeup x MissingEofb row is = absurd is
run_kind_looks width page line first makeup x TooManyCodedRows row is = absurd is
