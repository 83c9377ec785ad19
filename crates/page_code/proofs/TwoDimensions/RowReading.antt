-- Reading a row of a T.6 page item by item: what reading before an item gives is what reading after it gives, or the refusal there.
use Rattle.std.proofs.Common.{ℕ, ◌≡◌, ◌+◌, ◌<◌, Bool, false, List, [], ◌∷◌, ◌++◌, length, Some, None, refl, ap, sym, ◌∙◌, cond, arith}
use Rattle.std.proofs.Common.{append_assoc, length-append}
use Rattle.std.proofs.lemmas.List.{append-nil}
use Rattle.std.specs.Prelude.{Option, Contains, Ok, Err}
use Rattle.std.proofs.lemmas.Bool.{false≢true}
use Rattle.run_tables.specs.declared.fault.CodeFaultKind.{CodeFaultKind}
use Rattle.run_tables.specs.declared.fault.CodeFaultKind.TheVariants.{BadCode, Truncated, Extension}
use Rattle.run_tables.specs.Texts.{begins, pick, is_cut}
use Rattle.run_tables.specs.Fronts.{Finds, spell}
use Rattle.run_tables.specs.Fronts.Look.{go, refuse}
use Rattle.run_tables.specs.RowFronts.{judged}
use Rattle.run_tables.proofs.FrontWalks.{read_seen, read_walk, spell-append, walk_on}
use Rattle.run_tables.proofs.BeginsLemmas.{pick_found, begins_own, pick_sound}
use Rattle.page_code.specs.TwoDimensions.Positions.{CodingLine}
use Rattle.page_code.specs.TwoDimensions.Modes.{extension_word}
use Rattle.page_code.specs.declared.t6.mode.ModeCode.{ModeCode}
use Rattle.page_code.specs.TwoDimensions.Fronts.{mode_word, mode_codes, PageItem, page_item_word, PageSoFar, PageState, after_mode}
use Rattle.page_code.specs.TwoDimensions.Fronts.{found_mode, look_mode}
use Rattle.page_code.specs.TwoDimensions.Fronts.PageItem.{mode_item}
use Rattle.page_code.specs.TwoDimensions.Fronts.PageState.{between, inside, running}
use Rattle.page_code.specs.TwoDimensions.Reading.{GoesTo, RowStep, row_look, row_reading}
use Rattle.page_code.proofs.TwoDimensions.PageLook.{finds, modes_apart}

-- a row's items are a page's
row_sound : (width : ℕ) (s : PageState) (x : List Bool) (i : PageItem) (t : PageState) → row_look width s x ≡ go i t
    → RowStep width s i t × ((rest : List Bool) × (x ≡ page_item_word i ++ rest))
row_sound width (between page) x i t e = cc
row_sound width (inside page line) x i t e = (finds width).sound (inside page line) x i t e
row_sound width (running page line first makeup) x i t e = (finds width).sound (running page line first makeup) x i t e

row_complete : (width : ℕ) (s : PageState) (i : PageItem) (t : PageState) (rest : List Bool) → RowStep width s i t
    → row_look width s (page_item_word i ++ rest) ≡ go i t
row_complete width (between page) i t rest step = absurd step
row_complete width (inside page line) i t rest step = (finds width).complete (inside page line) i t rest step
row_complete width (running page line first makeup) i t rest step = (finds width).complete (running page line first makeup) i t rest step

row_positive : (width : ℕ) (s : PageState) (i : PageItem) (t : PageState) → RowStep width s i t → 0 < length (page_item_word i)
row_positive width (between page) i t step = absurd step
row_positive width (inside page line) i t step = (finds width).positive (inside page line) i t step
row_positive width (running page line first makeup) i t step = (finds width).positive (running page line first makeup) i t step

-- looking finds exactly the items that may come
pub row_finds : (width : ℕ) → Finds page_item_word (RowStep width) (row_look width)
row_finds width = record {
  sound = λ s x i t e. row_sound width s x i t e;
  complete = λ s i t rest step. row_complete width s i t rest step;
  positive = λ s i t step. row_positive width s i t step;
}

-- no items
pub goes_none : (width : ℕ) (s : PageState) (place : ℕ) (x : List Bool) → GoesTo width s place x s place x
goes_none width s place x = record { items = []; walk = refl; spelled = refl; later_is = omega arith }

-- one item
pub goes_item : (width : ℕ) (s t : PageState) (i : PageItem) (place later : ℕ) (x rest : List Bool) → RowStep width s i t
    → x ≡ page_item_word i ++ rest → later ≡ place + length (page_item_word i) → GoesTo width s place x t later rest
goes_item width s t i place later x rest step split is = record {
  items = i ∷ [];
  walk = (t, step, refl);
  spelled = split ∙ ap (λ (l : List Bool). l ++ rest) (sym (append-nil (page_item_word i)));
  later_is = is ∙ ap (λ (l : List Bool). place + length l) (sym (append-nil (page_item_word i)));
}

-- items, and then others
pub goes_twice : (width : ℕ) (s t u : PageState) (place mid later : ℕ) (x y z : List Bool) → GoesTo width s place x t mid y
    → GoesTo width t mid y u later z → GoesTo width s place x u later z
goes_twice width s t u place mid later x y z one two = record {
  items = one.items ++ two.items;
  walk = walk_on page_item_word (RowStep width) one.items two.items s t u one.walk two.walk;
  spelled = one.spelled ∙ (ap (λ (l : List Bool). spell page_item_word one.items ++ l) two.spelled ∙
      (sym (append_assoc (spell page_item_word one.items) (spell page_item_word two.items) z) ∙
      ap (λ (l : List Bool). l ++ z) (sym (spell-append page_item_word (RowStep width) one.items two.items))));
  later_is = omega (
    arith,
    one.later_is,
    two.later_is,
    ap length (spell-append page_item_word (RowStep width) one.items two.items),
    length-append (spell page_item_word one.items) (spell page_item_word two.items),
  );
}

-- what reading before items gives is what reading after them gives
pub goes_reads : (width : ℕ) (s t : PageState) (place later : ℕ) (x rest : List Bool) → GoesTo width s place x t later rest
    → row_reading width s place x ≡ row_reading width t later rest
unfolding row_reading
goes_reads width s t place later x rest goes = rw (goes.spelled, goes.later_is) (read_walk page_item_word (RowStep width) (row_look width)
    BadCode (row_finds width) goes.items s t place rest goes.walk)

-- what is refused ends the reading
pub row_refuse : (width : ℕ) (s : PageState) (place : ℕ) (x : List Bool) (kind : CodeFaultKind) → row_look width s x ≡ refuse kind
    → row_reading width s place x ≡ Err (place, kind)
unfolding row_reading
row_refuse width s place x kind e = read_seen page_item_word (row_look width) BadCode s place x (refuse kind) e

-- the row is whole
pub row_whole : (width : ℕ) (page : PageSoFar) (place : ℕ) (x : List Bool)
    → row_reading width (between page) place x ≡ Ok (page.rows, place + 0)
unfolding row_reading
row_whole width page place x = refl

-- a mode code is read
pub mode_read : (width : ℕ) (page : PageSoFar) (line : CodingLine) (code : ModeCode) (t : PageState) (place later : ℕ) (x rest : List
    Bool) → Contains mode_codes code → x ≡ mode_word code ++ rest → later ≡ place + length (mode_word code)
    → after_mode width page line code ≡ Ok t → GoesTo width (inside page line) place x t later rest
mode_read width page line code t place later x rest stands split is leads =
    goes_item width (inside page line) t (mode_item code) place later x rest (record { stands = stands; leads = leads }) split is

-- a mode code is refused
pub mode_refused : (width : ℕ) (page : PageSoFar) (line : CodingLine) (code : ModeCode) (kind : CodeFaultKind) (place : ℕ) (x rest : List
    Bool) → Contains mode_codes code → x ≡ mode_word code ++ rest → after_mode width page line code ≡ Err kind
    → row_reading width (inside page line) place x ≡ Err (place, kind)
unfolding look_mode
mode_refused width page line code kind place x rest stands split leads =
    row_refuse width (inside page line) place x kind (ap (look_mode width page line) split ∙
    (ap (found_mode width page line (mode_word code ++ rest)) (pick_found mode_word mode_codes code rest modes_apart stands) ∙
    ap (judged (mode_item code)) leads))

-- where no item of the list begins the bits none is picked
pick_none : {Item : Type 0} (word : Item → List Bool) (items : List Item) (x : List Bool) → ((i : Item) → Contains items i
    → begins (word i) x ≡ false) → pick word items x ≡ None
pick_none word items x none = picked (pick word items x) refl
  where
    picked : (o : Option _) → pick word items x ≡ o → pick word items x ≡ None
    picked None e = e
    picked (Some i) e =
        let there = pick_sound word items i x e in
        absurd (false≢true (sym (none i there.0) ∙ (ap (begins (word i)) there.1 ∙ begins_own (word i) _)))

-- no mode code begins the bits
pub mode_missing : (width : ℕ) (page : PageSoFar) (line : CodingLine) (place : ℕ) (x : List Bool) (kind : CodeFaultKind)
    → ((code : ModeCode) → begins (mode_word code) x ≡ false)
    → cond (begins extension_word x) Extension (cond (is_cut mode_word mode_codes x) Truncated BadCode) ≡ kind
    → row_reading width (inside page line) place x ≡ Err (place, kind)
unfolding look_mode
mode_missing width page line place x kind none is =
    row_refuse width (inside page line) place x kind (ap (found_mode width page line x) (pick_none mode_word mode_codes x (λ code c.
    none code)) ∙ ap (λ (k : CodeFaultKind). refuse k) is)
