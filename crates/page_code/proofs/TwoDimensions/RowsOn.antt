-- Reading a T.6 page row by row: which items lead over a row, where they end, and the whole rows before that.
use Rattle.std.proofs.Common.{ltb, ℕ, suc, ◌≡◌, ◌+◌, ◌-◌, ◌*◌, ◌<◌, ◌≤◌, Bool, true, false, List, [], ◌∷◌, ◌++◌, length, drop}
use Rattle.std.proofs.Common.{Some, None, inl, inr, refl, ap, sym, ◌∙◌, subst, arith, cond, nat_eq, length-append}
use Rattle.std.specs.Prelude.{Option, Result, Ok, Err, All}
use Rattle.std.proofs.lemmas.Bool.{lt-ltb}
use Rattle.std.proofs.lemmas.List.{length_push, append_cancel_left, append_cancel_right, length-replicate}
use Rattle.std.proofs.lemmas.List.Elements.{All-head, All-tail}
use Rattle.raster.specs.declared.row.Color.{Color}
use Rattle.raster.specs.declared.packed.Order.{Order}
use Rattle.raster.specs.declared.row.Color.TheVariants.{White}
use Rattle.raster.specs.Packed.{bits_of}
use Rattle.raster.specs.Pages.{IsPage}
use Rattle.raster.specs.Pixels.{IsWidth, other}
use Rattle.raster.proofs.PackedLemmas.{length-bits_in}
use Rattle.run_tables.specs.Reading.{Reading, rest_of}
use Rattle.run_tables.specs.declared.fault.CodeFault.{CodeFault}
use Rattle.run_tables.specs.declared.fault.CodeFaultKind.{CodeFaultKind}
use Rattle.run_tables.specs.declared.fault.CodeFaultKind.TheVariants.{BadCode, Backwards, PastEnd, EmptyHorizontal, MissingEofb}
use Rattle.run_tables.specs.Fronts.{Walk, spell}
use Rattle.run_tables.specs.Fronts.Look.{go, stop, refuse}
use Rattle.run_tables.specs.RowFronts.{amount, run_of}
use Rattle.run_tables.proofs.FrontLaws.{halts, answers_there}
use Rattle.run_tables.proofs.FrontWalks.{stops, refuses, read_walk}
use Rattle.raster.specs.declared.coding.Coding.TheVariants.{T6}
use Rattle.page_code.specs.declared.t6.mode.ModeCode.{ModeCode}
use Rattle.page_code.specs.declared.t6.mode.ModeCode.TheVariants.{Pass, Horizontal, Vertical}
use Rattle.page_code.specs.declared.t6.read.Start.TheVariants.{Row, End, Refused}
use Rattle.page_code.specs.declared.t6.read.Start.{Start}
use Rattle.page_code.specs.declared.page.Progress.{Progress}
use Rattle.page_code.specs.Codings.{read_rows}
use Rattle.page_code.specs.RowsSoFar.{AreRowsSoFar, BeginWith, IsFurther, IsReadTo, LeadsTo, ReadsOn, between_rows}
use Rattle.page_code.specs.TwoDimensions.PageEnds.{HoldsRowsTo}
use Rattle.page_code.specs.TwoDimensions.Positions.{CodingLine, line_begin, white_line, right_of_a0, filled_to, b1_of, b2_of}
use Rattle.page_code.specs.TwoDimensions.Modes.{to_right, to_left, eofb, runs_added}
use Rattle.page_code.specs.TwoDimensions.Fronts.{PageItem, page_item_word, PageSoFar, PageState, page_begin, row_added, mode_ended}
use Rattle.page_code.specs.TwoDimensions.Fronts.{after_mode, run_ended, after_run, PageStep, PageLook, page_end, page_look, reading}
use Rattle.page_code.specs.TwoDimensions.Fronts.{read_page}
use Rattle.page_code.specs.TwoDimensions.Fronts.PageItem.{mode_item, run_item}
use Rattle.page_code.specs.TwoDimensions.Fronts.PageState.{between, inside, running}
use Rattle.page_code.specs.TwoDimensions.Reading.{ReadsRow, RowStep, SeesStart, row_look, row_reading}
use Rattle.page_code.specs.TwoDimensions.Writing.{reference_at}
use Rattle.page_code.proofs.FrontEnds.{drop_on, goes_on, leads_on, leads_rest, leads_within}
use Rattle.page_code.proofs.TwoDimensions.PageLook.{finds, mode_never_stops, run_never_stops}
use Rattle.page_code.proofs.TwoDimensions.ReadsAll.{rows_way}
use Rattle.page_code.proofs.TwoDimensions.ReadsOnly.{let_pass, reads_only}
use Rattle.page_code.proofs.TwoDimensions.Reading.{reading_stop, reading_refuse}
use Rattle.page_code.proofs.TwoDimensions.RowReading.{row_finds}
use Rattle.page_code.proofs.TwoDimensions.StepsOn.{last_added}

-- what is refused or ends doesn't go on
refused_goes : (l : PageLook) (kind : CodeFaultKind) (i : PageItem) (t : PageState) → l ≡ refuse kind → l ≡ go i t → ⊥
refused_goes l kind i t is e = let both : ◌≡◌ {A = PageLook} (refuse kind) (go i t) = sym is ∙ e in cc

stopped_goes : (l : PageLook) (rows : List (List Color)) (n : ℕ) (i : PageItem) (t : PageState) → l ≡ stop rows n → l ≡ go i t → ⊥
stopped_goes l rows n i t is e = let both : ◌≡◌ {A = PageLook} (stop rows n) (go i t) = sym is ∙ e in cc

-- The rows before a state

-- the rows of a state, and the reference line of the row that is there
abbrev pub page_of : PageState → PageSoFar
page_of (between page) = page
page_of (inside page line) = page
page_of (running page line first makeup) = page

-- an item leads to a place in the same row, or over it
abbrev Follows : PageSoFar → PageState → Type 0
Follows page (between next) = (row : List Color) × (next ≡ row_added page row)
Follows page (inside same line) = same ≡ page
Follows page (running same line first makeup) = same ≡ page

ended_follows : (width : ℕ) (page : PageSoFar) (line : CodingLine) (t : PageState)
    → ◌≡◌ {A = Result PageState CodeFaultKind} (Ok (mode_ended width page line)) (Ok t) → Follows page t
ended_follows width page line t e =
    let led : mode_ended width page line ≡ t = cc in
    rw (← led) (seen (nat_eq (length line.pixels) width))
  where
    seen : (b : Bool) → Follows page (cond b (between (row_added page line.pixels)) (inside page line))
    seen true = (line.pixels, refl)
    seen false = refl

mode_follows : (width : ℕ) (page : PageSoFar) (line : CodingLine) (code : ModeCode) (t : PageState)
    → after_mode width page line code ≡ Ok t → Follows page t
unfolding after_mode
mode_follows width page line Pass t e =
    let b2 : ℕ = b2_of page.reference line in
    let next : CodingLine = record { pixels = filled_to line b2; begun = true; color = line.color } in
    ended_follows width page next t (let_pass (ltb width b2) PastEnd (Ok (mode_ended width page next)) t (let_pass (ltb b2 (right_of_a0
    line)) Backwards _ t e))
mode_follows width page line Horizontal t e = let led : t ≡ running page line None None = cc in rw led refl
mode_follows width page line (Vertical shift) t e =
    let b1 : ℕ = b1_of page.reference line in
    let next : CodingLine = record { pixels = filled_to line (b1 + to_right shift - to_left shift); begun = true; color = other line.color }
    in
    ended_follows width page next t (let_pass (ltb (width + to_left shift) (b1 + to_right shift)) PastEnd (Ok (mode_ended width page
    next)) t (let_pass (ltb (b1 + to_right shift) (right_of_a0 line + to_left shift)) Backwards _ t e))

run_ended_follows : (width : ℕ) (page : PageSoFar) (line : CodingLine) (first : Option ℕ) (run : ℕ) (t : PageState)
    → run_ended width page line first run ≡ Ok t → Follows page t
run_ended_follows width page line None run t e = let led : t ≡ running page line (Some run) None = cc in rw led refl
run_ended_follows width page line (Some a0a1) run t e = ended_follows width page (runs_added line a0a1 run) t (let_pass (nat_eq (a0a1 +
    run) 0) EmptyHorizontal (Ok (mode_ended width page (runs_added line a0a1 run))) t e)

run_follows : (width : ℕ) (page : PageSoFar) (line : CodingLine) (first makeup : Option ℕ) (run : ℕ) (t : PageState)
    → after_run width page line first makeup run ≡ Ok t → Follows page t
unfolding after_run
run_follows width page line first makeup run t e = seen (ltb run 64) (let_pass (ltb width (length line.pixels + amount first + (amount
    makeup + run))) PastEnd (cond (ltb run 64) (run_ended width page line first (amount makeup + run)) (Ok (running page line first (Some
    run)))) t e)
  where
    seen : (b : Bool) → cond b (run_ended width page line first (amount makeup + run)) (Ok (running page line first (Some run))) ≡ Ok t
        → Follows page t
    seen true e = run_ended_follows width page line first (amount makeup + run) t e
    seen false e = let led : t ≡ running page line first (Some run) = cc in rw led refl

step_follows : (width : ℕ) (s : PageState) (i : PageItem) (t : PageState) → PageStep width s i t → Follows (page_of s) t
step_follows width (between page) (mode_item code) t step = mode_follows width page line_begin code t step.1.leads
step_follows width (inside page line) (mode_item code) t step = mode_follows width page line code t step.leads
step_follows width (running page line first makeup) (mode_item code) t step = absurd step
step_follows width (between page) (run_item code) t step = absurd step
step_follows width (inside page line) (run_item code) t step = absurd step
step_follows width (running page line first makeup) (run_item code) t step = run_follows width page line first makeup (run_of code) t
    step.leads

-- rows stay
follows_grows : (page : PageSoFar) (t : PageState) → Follows page t → length page.rows ≤ length (page_of t).rows
follows_grows page (between next) follows = omega (
  arith,
  ap (λ (p : PageSoFar). length p.rows) follows.1,
  length_push page.rows follows.0,
)
follows_grows page (inside same line) follows = omega (arith, ap (λ (p : PageSoFar). length p.rows) follows)
follows_grows page (running same line first makeup) follows = omega (arith, ap (λ (p : PageSoFar). length p.rows) follows)

walk_grows : (width : ℕ) (items : List PageItem) (s t : PageState) → Walk (PageStep width) s items t
    → length (page_of s).rows ≤ length (page_of t).rows
walk_grows width [] s t walk = omega (arith, ap (λ (u : PageState). length (page_of u).rows) walk)
walk_grows width (i ∷ is) s t walk = omega (
  arith,
  follows_grows (page_of s) walk.0 (step_follows width s i walk.0 walk.1),
  walk_grows width is walk.0 t walk.2,
)

-- One row

row_step_page : (width : ℕ) (s : PageState) (i : PageItem) (t : PageState) → RowStep width s i t → PageStep width s i t
row_step_page width (between page) i t step = absurd step
row_step_page width (inside page line) i t step = step
row_step_page width (running page line first makeup) i t step = step

row_walk_page : (width : ℕ) (items : List PageItem) (s t : PageState) → Walk (RowStep width) s items t → Walk (PageStep width) s items t
row_walk_page width [] s t walk = walk
row_walk_page width (i ∷ is) s t walk = (walk.0, row_step_page width s i walk.0 walk.1, row_walk_page width is walk.0 t walk.2)

row_follows : (width : ℕ) (page : PageSoFar) (items : List PageItem) (s t : PageState) → Follows page s → Walk (RowStep width) s items t
    → Follows page t
row_follows width page [] s t follows walk = subst (λ (u : PageState). Follows page u) walk follows
row_follows width page (i ∷ is) (between next) t follows walk = absurd walk.1
row_follows width page (i ∷ is) (inside same line) t follows walk =
    row_follows width page is walk.0 t (subst (λ (p : PageSoFar). Follows p walk.0) follows (step_follows width (inside same line) i walk.0
    walk.1)) walk.2
row_follows width page (i ∷ is) (running same line first makeup) t follows walk =
    row_follows width page is walk.0 t (subst (λ (p : PageSoFar). Follows p walk.0) follows (step_follows width (running same line first
    makeup) i walk.0 walk.1)) walk.2

-- a row's first item comes between rows
first_there : (width : ℕ) (page : PageSoFar) (i : PageItem) (t : PageState) → length page.rows < 20000
    → RowStep width (inside page line_begin) i t → PageStep width (between page) i t
first_there width page (mode_item code) t room step = (room, step)
first_there width page (run_item code) t room step = absurd step

-- a row's items lead over it
pub record Taken (width : ℕ) (page : PageSoFar) (row : List Color) (place after : ℕ) (x : List Bool) : Type 0 where
  pub items : List PageItem
  pub rest : List Bool
  pub walk : Walk (PageStep width) (between page) items (between (row_added page row))
  pub spelled : x ≡ spell page_item_word items ++ rest
  pub after_is : after ≡ place + length (spell page_item_word items)

pub row_taken : (width : ℕ) (page : PageSoFar) (row : List Color) (place after : ℕ) (x : List Bool) → length page.rows < 20000
    → row_reading width (inside page line_begin) place x ≡ Ok (page.rows ++ row ∷ [], after) → Taken width page row place after x
unfolding row_reading
row_taken width page row place after x room e =
    let h = halts page_item_word (RowStep width) (row_look width) BadCode (row_finds width) (suc (length x)) (inside page line_begin) place
    x (omega arith) in
    let answer = stops (row_look width h.end h.rest) (place + length (spell page_item_word h.items)) after (page.rows ++ row ∷ []) (rw e at
    h.answers) in
    let follows = row_follows width page h.items (inside page line_begin) h.end refl h.walk in
    from h.items h.end h.rest answer.0 h.walk follows h.spelled answer.1 answer.2
  where
    from : (items : List PageItem) (end : PageState) (rest : List Bool) (n : ℕ) → Walk (RowStep width) (inside page line_begin) items end
        → Follows page end → x ≡ spell page_item_word items ++ rest → row_look width end rest ≡ stop (page.rows ++ row ∷ []) n
        → after ≡ place + length (spell page_item_word items) + n → Taken width page row place after x
    from [] (between next) rest n walk follows spelled seen is = absurd (cc walk)
    from (i ∷ is) (between next) rest n walk follows spelled seen is' =
        let rows : next.rows ≡ page.rows ++ row ∷ [] = cc in
        let none : n ≡ 0 = cc in
        let both : page.rows ++ follows.0 ∷ [] ≡ page.rows ++ row ∷ [] = sym (ap (λ (p : PageSoFar). p.rows) follows.1) ∙ rows in
        let one : follows.0 ∷ [] ≡ row ∷ [] = append_cancel_left page.rows (follows.0 ∷ []) (row ∷ []) both in
        let same : follows.0 ≡ row = cc in
        let end : next ≡ row_added page row = follows.1 ∙ ap (row_added page) same in
        record {
          items = i ∷ is;
          rest = rest;
          walk = (
            walk.0,
            first_there width page i walk.0 room walk.1,
            subst (λ (p : PageSoFar). Walk (PageStep width) walk.0 is (between p)) end (row_walk_page width is walk.0 (between next)
                walk.2),
          );
          spelled = spelled;
          after_is = omega (arith, is', none);
        }
    from items (inside same line) rest n walk follows spelled seen is = absurd (mode_never_stops width same line rest (page.rows ++ row ∷
        []) n seen)
    from items (running same line first makeup) rest n walk follows spelled seen is = absurd (run_never_stops width same line first makeup
        rest (page.rows ++ row ∷ []) n seen)

-- items after a page's whole rows, where nothing that may be there follows
pub record Stopped (width : ℕ) (page : PageSoFar) (place at : ℕ) (kind : CodeFaultKind) (x : List Bool) : Type 0 where
  pub items : List PageItem
  pub end : PageState
  pub rest : List Bool
  pub walk : Walk (PageStep width) (between page) items end
  pub spelled : x ≡ spell page_item_word items ++ rest
  pub at_is : at ≡ place + length (spell page_item_word items)
  pub seen : page_look width end rest ≡ refuse kind
  pub rows : (page_of end).rows ≡ page.rows

pub row_stopped : (width : ℕ) (page : PageSoFar) (place at : ℕ) (kind : CodeFaultKind) (x : List Bool)
    → SeesStart x (length page.rows) Row → row_reading width (inside page line_begin) place x ≡ Err (at, kind)
    → Stopped width page place at kind x
unfolding row_reading
row_stopped width page place at kind x sees e =
    let h = halts page_item_word (RowStep width) (row_look width) BadCode (row_finds width) (suc (length x)) (inside page line_begin) place
    x (omega arith) in
    let answer = refuses (row_look width h.end h.rest) (place + length (spell page_item_word h.items)) at kind (rw e at h.answers) in
    let follows = row_follows width page h.items (inside page line_begin) h.end refl h.walk in
    from h.items h.end h.rest h.walk follows h.spelled answer.0 answer.1
  where
    begun : (i : PageItem) (is : List PageItem) (end : PageState) (rest : List Bool)
        → Walk (RowStep width) (inside page line_begin) (i ∷ is) end → x ≡ spell page_item_word (i ∷ is) ++ rest
        → page_look width end rest ≡ refuse kind → page_of end ≡ page → at ≡ place + length (spell page_item_word (i ∷ is))
        → Stopped width page place at kind x
    begun i is end rest walk spelled seen same is' = record {
      items = i ∷ is;
      end = end;
      rest = rest;
      walk = (walk.0, first_there width page i walk.0 sees.3 walk.1, row_walk_page width is walk.0 end walk.2);
      spelled = spelled;
      at_is = is';
      seen = seen;
      rows = ap (λ (p : PageSoFar). p.rows) same;
    }

    from : (items : List PageItem) (end : PageState) (rest : List Bool) → Walk (RowStep width) (inside page line_begin) items end
        → Follows page end → x ≡ spell page_item_word items ++ rest → row_look width end rest ≡ refuse kind
        → at ≡ place + length (spell page_item_word items) → Stopped width page place at kind x
    from [] end rest walk follows spelled seen is =
        let there : row_look width (inside page line_begin) x ≡ refuse kind = rw (← walk, ← spelled) at seen in
        record {
          items = [];
          end = between page;
          rest = x;
          walk = refl;
          spelled = refl;
          at_is = is;
          seen = rw (sees.0, sees.1, sees.2, lt-ltb (length page.rows) 20000 sees.3) there;
          rows = refl;
        }
    from (i ∷ is) (between next) rest walk follows spelled seen is' = cc
    from (i ∷ is) (inside same line) rest walk follows spelled seen is' = begun i is (inside same line) rest walk spelled seen follows is'
    from (i ∷ is) (running same line first makeup) rest walk follows spelled seen is' = begun i is (running same line first makeup) rest
        walk spelled seen follows is'

-- Whole rows

-- rows that were read are spelled, by the bits up to the place
pub spelled_to : (width : ℕ) (bits : List Bool) (rows : List (List Color)) (place : ℕ) → 0 < length rows
    → LeadsTo page_item_word (PageStep width) (page_begin width) (between_rows width rows) bits place → HoldsRowsTo width bits rows place
unfolding reading
spelled_to width bits rows place some leads =
    let front : List Bool = spell page_item_word leads.items in
    let whole : List Bool = front ++ (eofb ++ []) in
    let last = answers_there page_item_word (PageStep width) (page_look width) BadCode (finds width) leads.items (suc (length whole))
    (page_begin width) (between_rows width rows) 0 (eofb ++ []) rows 24 leads.walk (omega arith) (ending rows some) in
    let read = reads_only width whole rows (0 + length front + 24) last in
    let size : length read.front ≡ length front = omega (arith, read.used_is) in
    let none : read.rest ≡ [] = empty read.rest (omega (
      arith,
      size,
      ap length read.split,
      length-append front (eofb ++ []),
      length-append read.front (eofb ++ read.rest),
      length-append eofb read.rest,
      length-append eofb [],
    )) in
    let same : front ≡ read.front = append_cancel_right front read.front (eofb ++ []) (read.split ∙
    ap (λ l. read.front ++ (eofb ++ l)) none) in
    (read.front, leads.rest, read.spells, leads.spelled ∙ ap (λ l. l ++ leads.rest) same, leads.place_is ∙ sym size)
  where
    ending : (all : List (List Color)) → 0 < length all → page_end all ≡ stop all 24
    ending [] h = absurd (omega arith)
    ending (row ∷ all) h = refl

    empty : (l : List Bool) → length l ≡ 0 → l ≡ []
    empty [] h = refl
    empty (bit ∷ l) h = absurd (omega arith)

pub spelled_rows : (width : ℕ) (bits : List Bool) (rows : List (List Color)) (place : ℕ) → 0 < length rows
    → LeadsTo page_item_word (PageStep width) (page_begin width) (between_rows width rows) bits place → BeginWith T6 width bits rows
unfolding BeginWith
spelled_rows width bits rows place some leads =
    let there = spelled_to width bits rows place some leads in
    (there.0, there.1, there.2, there.3)

-- where nothing goes on, the rows before it are those that the bits spell
counted : (width : ℕ) (bits : List Bool) (rows : List (List Color)) (place at : ℕ) (end : PageState) → IsWidth width
    → length rows ≤ 20000 → LeadsTo page_item_word (PageStep width) (page_begin width) (between_rows width rows) bits place
    → LeadsTo page_item_word (PageStep width) (page_begin width) end bits at → (page_of end).rows ≡ rows
    → ((i : PageItem) (t : PageState) → page_look width end (drop at bits) ≡ go i t → ⊥) → AreRowsSoFar T6 width bits (length rows)
unfolding BeginWith
counted width bits rows place at end wide few kept leads same stuck =
    let rest = leads_rest page_item_word (PageStep width) (page_begin width) end bits at leads in
    record {
      few = few;
      there = λ some. (rows, refl, spelled_rows width bits rows place some kept);
      no_more = λ others less begins.
          let way = rows_way width others (record { rows = []; reference = white_line width }) begins.0 wide.0 wide.1 (omega (
            arith,
            less,
          )) begins.2 in
          let same_bits : spell page_item_word leads.items ++ leads.rest ≡ spell page_item_word way.1.items ++ begins.1 = sym leads.spelled
          ∙ (begins.3 ∙ ap (λ l. l ++ begins.1) (sym way.1.spelled)) in
          let on = goes_on page_item_word (PageStep width) (page_look width) BadCode (finds width) leads.items way.1.items (page_begin
          width) end (between (record { rows = others; reference = way.0 })) leads.rest begins.1 leads.walk (λ i t e. stuck i t (ap
          (page_look width end) rest ∙ e)) way.1.walk same_bits in
          omega (
            arith,
            walk_grows width on.0 (between (record { rows = others; reference = way.0 })) end on.1,
            ap length same,
          );
    }

-- Reading on

-- reading the page is reading on there
leads_read : (width : ℕ) (bits : List Bool) (at : ℕ) (end : PageState)
    → LeadsTo page_item_word (PageStep width) (page_begin width) end bits at → read_page width bits ≡ reading width end at (drop at bits)
unfolding reading
leads_read width bits at end leads =
    let place : 0 + length (spell page_item_word leads.items) ≡ at = omega (arith, leads.place_is) in
    ap (reading width (page_begin width) 0) leads.spelled ∙
    (read_walk page_item_word (PageStep width) (page_look width) BadCode (finds width) leads.items (page_begin width) end 0 leads.rest
    leads.walk ∙ (ap (λ n. reading width end n leads.rest) place ∙
    ap (reading width end at) (sym (leads_rest page_item_word (PageStep width) (page_begin width) end bits at leads))))

abbrev pub Kept : ℕ → List Bool → List (List Color) → ℕ → Type 0
Kept width bits rows place = LeadsTo page_item_word (PageStep width) (page_begin width) (between_rows width rows) bits place

-- one row more
pub row_on : (width : ℕ) (bits : List Bool) (rows : List (List Color)) (row : List Color) (place after : ℕ) → length rows < 20000
    → Kept width bits rows place
    → row_reading width (inside (record { rows = rows; reference = reference_at (white_line width) rows (length rows) }) line_begin) place
    (drop place bits) ≡ Ok (rows ++ row ∷ [], after) → Kept width bits (rows ++ row ∷ []) after
row_on width bits rows row place after room kept reads =
    let page : PageSoFar = record { rows = rows; reference = reference_at (white_line width) rows (length rows) } in
    let taken = row_taken width page row place after (drop place bits) room reads in
    let end : ◌≡◌ {A = PageSoFar} (row_added page row) (record {
      rows = rows ++ row ∷ [];
      reference = reference_at (white_line width) (rows ++ row ∷ []) (length (rows ++ row ∷ []));
    }) = ap (λ (r : List Color). record { rows = rows ++ row ∷ []; reference = r }) (sym (last_added (white_line width) row rows)) in
    subst (λ (p : PageSoFar). LeadsTo page_item_word (PageStep width) (page_begin width) (between p) bits after) end
    (leads_on page_item_word (PageStep width) (page_begin width) (between_rows width rows) bits place kept (between (row_added page row))
    taken.items taken.rest after taken.walk taken.spelled taken.after_is)

-- a row is refused
pub row_off : (width : ℕ) (bits : List Bool) (rows : List (List Color)) (place at : ℕ) (kind : CodeFaultKind) → IsWidth width
    → Kept width bits rows place → SeesStart (drop place bits) (length rows) Row
    → row_reading width (inside (record { rows = rows; reference = reference_at (white_line width) rows (length rows) }) line_begin) place
    (drop place bits) ≡ Err (at, kind) → (read_rows T6 width bits ≡ Err (at, kind)) × AreRowsSoFar T6 width bits (length rows)
unfolding read_rows
row_off width bits rows place at kind wide kept sees reads =
    let page : PageSoFar = record { rows = rows; reference = reference_at (white_line width) rows (length rows) } in
    let stopped = row_stopped width page place at kind (drop place bits) sees reads in
    let leads = leads_on page_item_word (PageStep width) (page_begin width) (between_rows width rows) bits place kept stopped.end
    stopped.items stopped.rest at stopped.walk stopped.spelled stopped.at_is in
    let rest = drop_on bits (spell page_item_word stopped.items) stopped.rest place at stopped.spelled stopped.at_is in
    let seen : page_look width stopped.end (drop at bits) ≡ refuse kind = ap (page_look width stopped.end) rest ∙ stopped.seen in (
      leads_read width bits at stopped.end leads ∙ reading_refuse width stopped.end at (drop at bits) kind seen,
      counted width bits rows place at stopped.end wide (omega (arith, sees.3)) kept leads stopped.rows (λ i t e. refused_goes _ kind i t
          seen e),
    )

-- nothing that may be there is between rows
pub start_off : (width : ℕ) (bits : List Bool) (rows : List (List Color)) (place : ℕ) (kind : CodeFaultKind) → IsWidth width
    → length rows ≤ 20000 → Kept width bits rows place → SeesStart (drop place bits) (length rows) (Refused kind)
    → (read_rows T6 width bits ≡ Err (place, kind)) × AreRowsSoFar T6 width bits (length rows)
unfolding read_rows
start_off width bits rows place kind wide few kept sees =
    let page : PageSoFar = record { rows = rows; reference = reference_at (white_line width) rows (length rows) } in
    let seen : page_look width (between page) (drop place bits) ≡ refuse kind = sees width page refl in (
      leads_read width bits place (between_rows width rows) kept ∙ reading_refuse width (between page) place (drop place bits) kind seen,
      counted width bits rows place place (between_rows width rows) wide few kept kept refl (λ i t e. refused_goes _ kind i t seen e),
    )

-- EOFB after a row
pub page_off : (width : ℕ) (bits : List Bool) (rows : List (List Color)) (place after : ℕ) → IsWidth width
    → length rows ≤ 20000 → Kept width bits rows place → SeesStart (drop place bits) (length rows) End → after ≡ place + 24
    → (read_rows T6 width bits ≡ Ok (rows, after)) × AreRowsSoFar T6 width bits (length rows)
unfolding read_rows
page_off width bits rows place after wide few kept sees is =
    let page : PageSoFar = record { rows = rows; reference = reference_at (white_line width) rows (length rows) } in
    let seen : page_look width (between page) (drop place bits) ≡ stop rows 24 = rw sees.0 (ending rows sees.1) in (
      leads_read width bits place (between_rows width rows) kept ∙ (reading_stop width (between page) place (drop place bits) rows 24 seen ∙
          ap (λ (n : ℕ). Ok (rows, n)) (sym is)),
      counted width bits rows place place (between_rows width rows) wide few kept kept refl (λ i t e. stopped_goes _ rows 24 i t seen e),
    )
  where
    ending : (all : List (List Color)) → 0 < length all → page_end all ≡ stop all 24
    ending [] h = absurd (omega arith)
    ending (row ∷ all) h = refl

-- The same of a page that is read

-- the row before the next has the width too
even : (width : ℕ) (white : List Color) (rows : List (List Color)) → length white ≡ width → All (λ row. length row ≡ width) rows
    → length (reference_at white rows (length rows)) ≡ width
even width white [] is all = is
even width white (row ∷ rows) is all = even width row rows (All-head (λ r. length r ≡ width) row rows all) (All-tail (λ r. length r ≡
    width) row rows all)

pub read_within : (width : ℕ) (order : Order) (octets : List ℕ) (rows : List (List Color)) (place : ℕ)
    → IsReadTo T6 width (bits_of order octets) rows place → place ≤ 8 * length octets
unfolding IsReadTo
read_within width order octets rows place read = omega (
  arith,
  leads_within page_item_word (PageStep width) (page_begin width) (between_rows width rows) (bits_of order octets) place read,
  length-bits_in order octets (8 * length octets),
)

pub read_none : (width : ℕ) (bits : List Bool) → IsReadTo T6 width bits [] 0
unfolding IsReadTo
read_none width bits = record { items = []; rest = bits; walk = refl; spelled = refl; place_is = refl }

module _ (bits : List Bool) (old to : Progress) (width : to.page.width ≡ old.page.width) (fine : to.page.fine ≡ old.page.fine)
    (read : IsReadTo T6 to.page.width bits to.page.rows to.place) (page : IsPage to.page) (reader : Reading)
    (reader_is : reader ≡ record { bits = bits; place = to.place }) where
  further : IsFurther T6 bits old to
  further = record { width = width; fine = fine; read = read }

  sees_there : (start : Start) → SeesStart (rest_of reader) (length to.page.rows) start
      → SeesStart (drop to.place bits) (length to.page.rows) start
  sees_there start sees = subst (λ (r : Reading). SeesStart (rest_of r) (length to.page.rows) start) reader_is sees

  pub ends_on : (used : ℕ) → SeesStart (rest_of reader) (length to.page.rows) End → used ≡ to.place + 24 → ReadsOn T6 bits old to (Ok used)
  unfolding IsReadTo
  ends_on used sees is =
      let off = page_off to.page.width bits to.page.rows to.place used page.width page.few read (sees_there End sees) is in
      (further, off.0, off.1)

  pub refuses_on : (kind : CodeFaultKind) → SeesStart (rest_of reader) (length to.page.rows) (Refused kind)
      → ReadsOn T6 bits old to (Err (record { place = to.place; kind = kind }))
  unfolding IsReadTo
  refuses_on kind sees =
      let off = start_off to.page.width bits to.page.rows to.place kind page.width page.few read (sees_there (Refused kind) sees) in
      inr (further, off.0, off.1)

  module _ (white : List Color) (white_is : white ≡ white_line to.page.width)
      (sees : SeesStart (rest_of reader) (length to.page.rows) Row) (next : Reading) where
    here : PageSoFar
    here = record { rows = to.page.rows; reference = reference_at (white_line to.page.width) to.page.rows (length to.page.rows) }

    even_here : length here.reference ≡ to.page.width
    unfolding here
    even_here = even to.page.width (white_line to.page.width) to.page.rows (length-replicate to.page.width White) page.wide

    pub row_read : (row : List Color) → ReadsRow (reference_at white to.page.rows (length to.page.rows)) reader next (Ok row)
        → (length row ≡ to.page.width) × IsReadTo T6 to.page.width bits (to.page.rows ++ row ∷ []) next.place
    unfolding IsReadTo here
    row_read row reads =
        let there : ReadsRow here.reference (record { bits = bits; place = to.place }) next (Ok row) = subst (λ (w : List Color). ReadsRow
        (reference_at w to.page.rows (length to.page.rows)) (record { bits = bits; place = to.place }) next (Ok row)) white_is (subst (λ
        (r : Reading). ReadsRow (reference_at white to.page.rows (length to.page.rows)) r next (Ok row)) reader_is reads) in
        let room = sees_there Row sees in (
          there.0 ∙ even_here,
          row_on to.page.width bits to.page.rows row to.place next.place room.3 read (subst (λ (w : ℕ). row_reading w (inside here
              line_begin) to.place (drop to.place bits) ≡ Ok (to.page.rows ++ row ∷ [], next.place)) even_here (there.3 here refl)),
        )

    pub row_refused : (fault : CodeFault) → ReadsRow (reference_at white to.page.rows (length to.page.rows)) reader next (Err fault)
        → ReadsOn T6 bits old to (Err fault)
    unfolding IsReadTo here
    row_refused fault (inl memory) = inl memory
    row_refused fault (inr reads) =
        let there : (p : PageSoFar) → p.reference ≡ here.reference → row_reading (length here.reference) (inside p line_begin) to.place
        (drop to.place bits) ≡ Err (fault.place, fault.kind) = subst (λ (w : List Color). (p : PageSoFar) → p.reference ≡ reference_at w
        to.page.rows (length to.page.rows) → row_reading (length (reference_at w to.page.rows (length to.page.rows))) (inside p
        line_begin) to.place (drop to.place bits) ≡ Err (fault.place, fault.kind)) white_is (subst (λ (r : Reading). (p : PageSoFar)
        → p.reference ≡ reference_at white to.page.rows (length to.page.rows) → row_reading (length (reference_at white to.page.rows
        (length to.page.rows))) (inside p line_begin) r.place (rest_of r) ≡ Err (fault.place, fault.kind)) reader_is reads) in
        let off = row_off to.page.width bits to.page.rows to.place fault.place fault.kind page.width read (sees_there Row sees) (subst (λ (w
        : ℕ). row_reading w (inside here line_begin) to.place (drop to.place bits) ≡ Err (fault.place, fault.kind)) even_here (there here
        refl)) in
        inr (further, off.0, off.1)

-- no bits spell no rows
pub rows_none : (width : ℕ) → IsWidth width → AreRowsSoFar T6 width [] 0
rows_none width wide =
    let none : LeadsTo page_item_word (PageStep width) (page_begin width) (between_rows width []) [] 0 = record {
      items = [];
      rest = [];
      walk = refl;
      spelled = refl;
      place_is = refl;
    } in
    counted width [] [] 0 0 (between_rows width []) wide (omega arith) none none refl (λ i t e. refused_goes _ MissingEofb i t refl e)
