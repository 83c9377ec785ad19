-- The laws of refused T.6 pages, joined.
use Rattle.std.proofs.Common.{ltb, ℕ, ◌≡◌, ◌+◌, ◌<◌, ◌≤◌, ◌⊎◌, inl, inr, Bool, true, false, List, ◌++◌, length, drop, refl, ap, subst, sym}
use Rattle.std.proofs.Common.{◌∙◌, arith, cond, Some, None}
use Rattle.std.specs.Prelude.{Result, Ok, Err, ◌||◌, Option, Contains}
use Rattle.std.proofs.lemmas.Bool.{or_cases, false≢true}
use Rattle.raster.specs.declared.row.Color.{Color}
use Rattle.raster.specs.Pixels.{IsWidth}
use Rattle.run_tables.specs.declared.fault.CodeFaultKind.{CodeFaultKind}
use Rattle.run_tables.specs.declared.fault.CodeFaultKind.TheVariants.{NoRows, NoMemory, BadCode, Truncated, RunTooLong, Backwards, PastEnd}
use Rattle.run_tables.specs.declared.fault.CodeFaultKind.TheVariants.{EmptyHorizontal, Extension, MissingEofb, TooManyCodedRows}
use Rattle.run_tables.specs.Texts.{begins, all_zero}
use Rattle.run_tables.specs.Fronts.{spell}
use Rattle.run_tables.specs.Fronts.Look.{go, stop, refuse}
use Rattle.run_tables.specs.Codes.{code_word, run_at}
use Rattle.run_tables.specs.Kinds.{MayCome as RunMayCome}
use Rattle.run_tables.specs.RowFronts.{RunItem, allowed, codes_after}
use Rattle.run_tables.specs.RowFronts.{item_word as run_item_word}
use Rattle.run_tables.proofs.CodeLooks.{listed}
use Rattle.run_tables.proofs.RowReadings.{table_words}
use Rattle.run_tables.proofs.RowSpelling.{run_at_low}
use Rattle.run_tables.proofs.BeginsLemmas.{begins_own, begins_split, either_begins}
use Rattle.run_tables.proofs.FrontWalks.{read_walk}
use Rattle.page_code.specs.TwoDimensions.Positions.{CodingLine, line_begin}
use Rattle.page_code.specs.TwoDimensions.Modes.{eofb, ReadsAsPage}
use Rattle.page_code.specs.TwoDimensions.Fronts.{PageItem, page_item_word, PageSoFar, PageState, page_begin, PageStep, PageLook, look_mode}
use Rattle.page_code.specs.TwoDimensions.Fronts.{page_end, page_look, reading, read_page, run_color}
use Rattle.page_code.specs.TwoDimensions.Fronts.PageItem.{mode_item, run_item}
use Rattle.page_code.specs.TwoDimensions.Fronts.PageState.{between, inside, running}
use Rattle.page_code.specs.TwoDimensions.Kinds.{IsPagePart, BeginsWithCode, EndsInCode, MayCome, IsRefusedWord, PageKind, IsRefusedPage}
use Rattle.page_code.specs.TwoDimensions.Kinds.{among_after}
use Rattle.page_code.specs.TwoDimensions.KindLaws.{OneKind, RefusesPagesExactly, FrontsAreParts, FrontsGoOn, rows_before}
use Rattle.page_code.specs.TwoDimensions.Laws.{IsLongestFront}
use Rattle.page_code.proofs.TwoDimensions.GoesOn.{front_goes_on}
use Rattle.page_code.proofs.TwoDimensions.Laws.{refuses_at_longest}
use Rattle.page_code.proofs.TwoDimensions.ModeKinds.{misses}
use Rattle.page_code.proofs.TwoDimensions.PageKinds.{look_kind, kind_look}
use Rattle.page_code.proofs.TwoDimensions.PageLook.{finds, mode_never_stops, run_never_stops}
use Rattle.page_code.proofs.TwoDimensions.Parts.{front_part}
use Rattle.page_code.proofs.TwoDimensions.PartWays.{part_way}
use Rattle.page_code.proofs.TwoDimensions.Reading.{reading_refuse}
use Rattle.page_code.proofs.TwoDimensions.ReadsAll.{reads_all}
use Rattle.page_code.proofs.TwoDimensions.ReadsOnly.{reads_only}
use Rattle.page_code.proofs.TwoDimensions.Standing.{Stands, front_stands}

above : (width : ℕ) → IsWidth width → 0 < width
above width wide = omega (arith, wide.0)

part_stands : (width : ℕ) (front : List Bool) (s : PageState) → IsWidth width → IsPagePart width front s → Stands width s
part_stands width front s wide part =
    let way = part_way width front s wide part in
    front_stands width way.items s (above width wide) way.walk

-- reading after whole codes
part_read : (width : ℕ) (front : List Bool) (s : PageState) (rest : List Bool) → IsWidth width → IsPagePart width front s
    → read_page width (front ++ rest) ≡ reading width s (0 + length front) rest
unfolding reading
part_read width front s rest wide part =
    let way = part_way width front s wide part in
    subst (λ l. reading width (page_begin width) 0 (l ++ rest) ≡ reading width s (0 + length l) rest) way.spelled (read_walk page_item_word
    (PageStep width) (page_look width) BadCode (finds width) way.items (page_begin width) s 0 rest way.walk)

pub one_kind : OneKind
one_kind width front s x a b wide part one two =
    let stands = part_stands width front s wide part in
    let first = kind_look width s x a (above width wide) stands one in
    let second = kind_look width s x b (above width wide) stands two in
    let both : ◌≡◌ {A = PageLook} (refuse a) (refuse b) = sym first ∙ second in
    cc

-- ---- refusals

refusal_named : (width : ℕ) (x : List Bool) (place : ℕ) (kind : CodeFaultKind) → IsWidth width → read_page width x ≡ Err (place, kind)
    → IsRefusedPage width x place kind
refusal_named width x place kind wide e =
    let at : IsLongestFront width x place kind = refuses_at_longest width x place kind e in
    record {
      front = spell page_item_word at.items;
      rest = at.front.rest;
      state = at.front.end;
      split = at.front.spelled;
      part = front_part width at.items at.front.end (above width wide) at.front.walk;
      place_is = at.place_is;
      kind_is = look_kind width at.front.end at.front.rest kind (above width wide) (front_stands width at.items at.front.end (above width
          wide) at.front.walk) at.kind_is;
    }

refusal_read : (width : ℕ) (x : List Bool) (place : ℕ) (kind : CodeFaultKind) → IsWidth width → IsRefusedPage width x place kind
    → read_page width x ≡ Err (place, kind)
refusal_read width x place kind wide is =
    let stands = part_stands width is.front is.state wide is.part in
    let looks = kind_look width is.state is.rest kind (above width wide) stands is.kind_is in
    let where_is : 0 + length is.front ≡ place = omega (arith, is.place_is) in
    ap (read_page width) is.split ∙ (part_read width is.front is.state is.rest wide is.part ∙ (reading_refuse width is.state (0 + length
    is.front) is.rest kind looks ∙ ap (λ p. Err (p, kind)) where_is))

refusal_or_page : (width : ℕ) (x : List Bool) → IsWidth width → (r : Result (List (List Color) × ℕ) (ℕ × CodeFaultKind))
    → read_page width x ≡ r → ((rows : List (List Color)) × (used : ℕ) × ReadsAsPage width x rows used) ⊎ ((place : ℕ) × (kind
    : CodeFaultKind) × IsRefusedPage width x place kind)
refusal_or_page width x wide (Ok page) e = inl (page.0, page.1, reads_only width x page.0 page.1 e)
refusal_or_page width x wide (Err refusal) e = inr (refusal.0, refusal.1, refusal_named width x refusal.0 refusal.1 wide e)

one_refusal : (width : ℕ) (x : List Bool) (p q : ℕ) (a b : CodeFaultKind) → IsWidth width → IsRefusedPage width x p a
    → IsRefusedPage width x q b → (p ≡ q) × (a ≡ b)
one_refusal width x p q a b wide one two =
    let both : ◌≡◌ {A = Result (List (List Color) × ℕ) (ℕ × CodeFaultKind)} (Err (p, a)) (Err (q, b)) = sym (refusal_read width x p a wide
    one) ∙ refusal_read width x q b wide two in
    let pair : ◌≡◌ {A = ℕ × CodeFaultKind} (p, a) (q, b) = cc in
    (ap (λ (r : ℕ × CodeFaultKind). r.0) pair, ap (λ (r : ℕ × CodeFaultKind). r.1) pair)

no_longer : (width : ℕ) (x : List Bool) (place : ℕ) (kind : CodeFaultKind) (front rest : List Bool) (s : PageState) → IsWidth width
    → IsRefusedPage width x place kind → IsPagePart width front s → x ≡ front ++ rest → length front ≤ place
no_longer width x place kind front rest s wide is part split =
    let at : IsLongestFront width x place kind = refuses_at_longest width x place kind (refusal_read width x place kind wide is) in
    let way = part_way width front s wide part in
    let less = at.longest way.items (record {
      end = s;
      rest = rest;
      walk = way.walk;
      spelled = split ∙ ap (λ l. l ++ rest) (sym way.spelled);
    }) in
    omega (arith, less, ap length way.spelled)

not_both : (width : ℕ) (x : List Bool) (rows : List (List Color)) (used place : ℕ) (kind : CodeFaultKind) → IsWidth width
    → ReadsAsPage width x rows used → read_page width x ≡ Err (place, kind) → ⊥
not_both width x rows used place kind wide reads e = let read = reads_all width x rows used (above width wide) wide.1 reads in cc

pub refuses_pages_exactly : RefusesPagesExactly
refuses_pages_exactly = record {
  named = λ width x place kind wide. (λ e. refusal_named width x place kind wide e, λ is. refusal_read width x place kind wide is);
  some = λ width x wide. refusal_or_page width x wide (read_page width x) refl;
  none = λ width x rows used place kind wide reads is.
      not_both width x rows used place kind wide reads (refusal_read width x place kind wide is);
  one = λ width x p q a b wide first second. one_refusal width x p q a b wide first second;
  longest = λ width x place kind front rest s wide is part split. no_longer width x place kind front rest s wide is part split;
}

pub fronts_are_parts : FrontsAreParts
fronts_are_parts = record {
  parts = λ width items s wide walk. front_part width items s (above width wide) walk;
  fronts = λ width front s wide part. (let way = part_way width front s wide part in (way.items, way.walk, way.spelled));
}

-- ---- what goes on, and what doesn't

part_goes_on : (width : ℕ) (front : List Bool) (s : PageState) → IsWidth width → IsPagePart width front s
    → (more : List Bool) × (rows : List (List Color)) × ReadsAsPage width (front ++ more) rows (length (front ++ more))
    × ((later : List (List Color)) × (rows ≡ rows_before s ++ later))
part_goes_on width front s wide part =
    let way = part_way width front s wide part in
    let on = front_goes_on width way.items s wide way.walk in
    (on.0, on.1, subst (λ l. ReadsAsPage width (l ++ on.0) on.1 (length (l ++ on.0))) way.spelled on.2, on.3)

-- what is refused whatever follows is no page
refused_no_page : (width : ℕ) (front : List Bool) (s : PageState) (y : List Bool) (kind : CodeFaultKind) (rows : List (List Color)) (used :
    ℕ)
    → IsWidth width → IsPagePart width front s → PageKind width s y kind → ReadsAsPage width (front ++ y) rows used → ⊥
refused_no_page width front s y kind rows used wide part is reads = not_both width (front ++ y) rows used (length front) kind wide reads
    (refusal_read width (front ++ y) (length front) kind wide (record {
      front = front;
      rest = y;
      state = s;
      split = refl;
      part = part;
      place_is = refl;
      kind_is = is;
    }))

word_kind : (width : ℕ) (s : PageState) (word more : List Bool) (kind : CodeFaultKind) → IsRefusedWord width s word kind
    → PageKind width s (word ++ more) kind
word_kind width s word more NoRows is = (word, more, is, refl)
word_kind width s word more NoMemory is = absurd is
word_kind width s word more BadCode is = absurd is
word_kind width s word more Truncated is = absurd is
word_kind width s word more RunTooLong is = absurd is
word_kind width s word more Backwards is = (word, more, is, refl)
word_kind width s word more PastEnd is = (word, more, is, refl)
word_kind width s word more EmptyHorizontal is = (word, more, is, refl)
word_kind width s word more Extension is = (word, more, is, refl)
word_kind width s word more MissingEofb is = absurd is
word_kind width s word more TooManyCodedRows is = absurd is

-- a code that begins bits with more after them begins them, or they end in it
begins_more : (s : PageState) (x more : List Bool) → BeginsWithCode s (x ++ more) → BeginsWithCode s x ⊎ EndsInCode s x
begins_more s x more b =
    let word : List Bool = b.0 in
    let there : begins word (x ++ more) ≡ true = rw b.3 (begins_own word b.1) in
    seen word b.2 (begins word x) refl (either_begins word x more there)
  where
    seen : (word : List Bool) → MayCome s word → (first : Bool) → begins word x ≡ first → (begins word x || begins x word) ≡ true
        → BeginsWithCode s x ⊎ EndsInCode s x
    seen word may true is e = inl (word, drop (length word) x, may, begins_split word x is)
    seen word may false is e = elim (or_cases (begins word x) (begins x word) e) [
      | inl t ↦ absurd (false≢true (sym is ∙ t))
      | inr t ↦
          let ends = misses x word t is in
          inr (word, ends.0, ends.1, may, ends.2)
    ]

run_may : (color : Color) (makeup : Option ℕ) (k : ℕ) → k < codes_after makeup
    → RunMayCome color (among_after makeup) (run_at k) (code_word color (run_at k))
run_may color None k h = (table_words color (run_at k) (code_word color (run_at k))).1 (k, h, refl, refl)
run_may color (Some m) k h = (
  (table_words color (run_at k) (code_word color (run_at k))).1 (k, omega (arith, h), refl, refl),
  omega (arith, h, run_at_low k h),
)

run_comes : (page : PageSoFar) (line : CodingLine) (first makeup : Option ℕ) (code : RunItem) (rest : List Bool)
    → Contains (allowed (run_color line first) makeup) code
    → BeginsWithCode (running page line first makeup) (run_item_word code ++ rest)
run_comes page line first makeup code rest stands =
    let one = listed (run_color line first) (codes_after makeup) code stands in
    subst (λ c. BeginsWithCode (running page line first makeup) (run_item_word c ++ rest)) (sym one.2) (
      code_word (run_color line first) (run_at one.0),
      rest,
      (run_at one.0, run_may (run_color line first) makeup one.0 one.1),
      refl,
    )

-- an item that goes on begins with a code that may come, and so does an end
page_go_begins : (width : ℕ) (s : PageState) (i : PageItem) (t : PageState) (rest : List Bool) → PageStep width s i t
    → BeginsWithCode s (page_item_word i ++ rest)
page_go_begins width (between page) (mode_item code) t rest step = (page_item_word (mode_item code), rest, inr (step.0, code, refl), refl)
page_go_begins width (inside page line) (mode_item code) t rest step = (page_item_word (mode_item code), rest, (code, refl), refl)
page_go_begins width (running page line first makeup) (mode_item code) t rest step = absurd step
page_go_begins width (between page) (run_item code) t rest step = absurd step
page_go_begins width (inside page line) (run_item code) t rest step = absurd step
page_go_begins width (running page line first makeup) (run_item code) t rest step = run_comes page line first makeup code rest step.stands

stop_begins : (width : ℕ) (s : PageState) (y : List Bool) (rows : List (List Color)) (n : ℕ) → page_look width s y ≡ stop rows n
    → BeginsWithCode s y
stop_begins width (between page) y rows n e = seen (begins eofb y) (all_zero y) (begins y eofb) (ltb (length page.rows) 20000) _ _ _ refl e
  where
    seen : (a b c d : Bool) (p q r : CodeFaultKind) → begins eofb y ≡ a → cond a (page_end page.rows) (cond b (refuse p) (cond c (refuse
        q) (cond d (look_mode width page line_begin y) (refuse r)))) ≡ stop rows n → BeginsWithCode (between page) y
    seen true b c d p q r is e = (eofb, drop (length eofb) y, inl refl, begins_split eofb y is)
    seen false true c d p q r is e = cc
    seen false false true d p q r is e = cc
    seen false false false true p q r is e = absurd (mode_never_stops width page line_begin y rows n e)
    seen false false false false p q r is e = cc
stop_begins width (inside page line) y rows n e = absurd (mode_never_stops width page line y rows n e)
stop_begins width (running page line first makeup) y rows n e = absurd (run_never_stops width page line first makeup y rows n e)

-- where no code may come no page goes on
stuck_no_page : (width : ℕ) (front : List Bool) (s : PageState) (y : List Bool) (rows : List (List Color)) (used : ℕ) → IsWidth width
    → IsPagePart width front s → (BeginsWithCode s y → ⊥) → ReadsAsPage width (front ++ y) rows used → ⊥
stuck_no_page width front s y rows used wide part none reads = seen (page_look width s y) refl
  where
    seen : (l : PageLook) → page_look width s y ≡ l → ⊥
    seen (go i t) e =
        let there = (finds width).sound s y i t e in
        none (subst (BeginsWithCode s) (sym there.1.1) (page_go_begins width s i t there.1.0 there.0))
    seen (stop all n) e = none (stop_begins width s y all n e)
    seen (refuse kind) e = refused_no_page width front s y kind rows used wide part (look_kind width s y kind (above width wide)
        (part_stands
        width front s wide part) e) reads

pub fronts_go_on : FrontsGoOn
fronts_go_on = record {
  goes_on = λ width front s wide part. part_goes_on width front s wide part;
  refused_word = λ width front s word kind wide part is more rows used reads.
      refused_no_page width front s (word ++ more) kind rows used wide part (word_kind width s word more kind is) reads;
  no_code = λ width front s rest wide part unbegun unended more rows used reads.
      stuck_no_page width front s (rest ++ more) rows used wide part (λ b. elim (begins_more s rest more b) [
        | inl here ↦ unbegun here
        | inr ends ↦ unended ends
      ]) reads;
}
