-- What is read as a page spells it.
use Rattle.std.proofs.Common.{ltb, ℕ, suc, ◌≡◌, ◌+◌, ◌<◌, ◌≤◌, ◌⊎◌, inl, inr, Bool, true, false, List, [], ◌∷◌, ◌++◌, length, Some, None}
use Rattle.std.proofs.Common.{refl, ap, sym, ◌∙◌, arith, cond, subst, length-append, append_assoc}
use Rattle.std.specs.Prelude.{Option, Ok}
use Rattle.std.proofs.lemmas.Bool.{ltb-false}
use Rattle.std.proofs.lemmas.List.{length_push, append-nil}
use Rattle.raster.specs.declared.row.Color.{Color}
use Rattle.raster.specs.Pixels.{IsWidth}
use Rattle.raster.specs.declared.row.Color.TheVariants.{White}
use Rattle.run_tables.specs.declared.fault.CodeFaultKind.TheVariants.{NoRows, BadCode, TooManyCodedRows}
use Rattle.run_tables.specs.Fronts.{Walk, spell}
use Rattle.run_tables.specs.Fronts.Look.{go, stop, refuse}
use Rattle.run_tables.specs.RowFronts.{RunItem, RowState, row_begin}
use Rattle.run_tables.specs.RowFronts.{item_word as code_bits}
use Rattle.run_tables.specs.RowFronts.RowState.{inside, whole}
use Rattle.run_tables.proofs.FrontLaws.{halts}
use Rattle.run_tables.proofs.FrontWalks.{stops}
use Rattle.run_tables.proofs.CodeLooks.{code_goes, step_from_put}
use Rattle.run_tables.proofs.RowSpelling.{Left, code_left, row_spelled}
use Rattle.page_code.specs.OneDimension.Pages.{eol_word, eol_words, AreEols, AreZeros, IsLead, SpellsLater, IsEnd, ReadsAs}
use Rattle.page_code.specs.OneDimension.Fronts.{PageItem, item_word, PageState, put, CodeThere, Step, PageLook, zeros_before, by_eol}
use Rattle.page_code.specs.OneDimension.Fronts.{bits_of_eols, bits_of_five, ends_with, look_in_row, look, reading, read_page}
use Rattle.page_code.specs.OneDimension.Fronts.PageItem.{eol, coded}
use Rattle.page_code.specs.OneDimension.Fronts.PageState.{first, row_start, in_row, row_end}
use Rattle.page_code.proofs.OneDimension.ZerosBefore.{zeros_split, none_zeros, eols_found, eols_counted}
use Rattle.page_code.proofs.OneDimension.Look.{finds}

-- What is left of a page at each state

-- after a whole row: later rows, and an end
record TailRest (width : ℕ) (rows : List (List Color)) (x : List Bool) (page : List (List Color)) (used : ℕ) : Type 0 where
  more : List (List Color)
  bits : List Bool
  rest : List Bool
  last : ℕ
  later : SpellsLater width more bits
  split : x ≡ bits ++ rest
  pages : page ≡ rows ++ more
  few : length page ≤ 20000
  ends : IsEnd rest last
  used_is : used ≡ length bits + last

-- inside a row: what completes it, and what is left after it
record RowRest (width : ℕ) (rows : List (List Color)) (state : RowState) (x : List Bool) (page : List (List Color)) (used : ℕ) : Type 0
  where
    row : List Color
    front : List Bool
    rest : List Bool
    after : ℕ
    left : Left width state row front
    split : x ≡ front ++ rest
    later : TailRest width (rows ++ row ∷ []) rest page after
    used_is : used ≡ length front + after

-- after one EOL the page may end
abbrev EndsThere : List Bool → ℕ → Type 0
EndsThere x used = (AreZeros x × (used ≡ 0)) ⊎ ((eols : List ℕ) × (rest : List Bool) × AreEols 5 x eols rest × (1 ≤ length eols)
    × (used ≡ length (eol_words eols)))

record EndRest (rows : List (List Color)) (x : List Bool) (page : List (List Color)) (used : ℕ) : Type 0 where
  pages : page ≡ rows
  some : 0 < length rows
  few : length page ≤ 20000
  ends : EndsThere x used

abbrev Rest : ℕ → PageState → List Bool → List (List Color) → ℕ → Type 0
Rest width first x page used = ReadsAs width x page used
Rest width (row_start rows) x page used = RowRest width rows row_begin x page used ⊎ EndRest rows x page used
Rest width (in_row rows pixels color makeup) x page used = RowRest width rows (inside pixels color makeup) x page used
Rest width (row_end rows) x page used = TailRest width rows x page used

opened : (width : ℕ) (rows : List (List Color)) (state : RowState) (x : List Bool) (page : List (List Color)) (used : ℕ)
    → Rest width (put rows state) x page used → RowRest width rows state x page used
opened width rows (inside pixels color makeup) x page used rest = rest
opened width rows (whole row) x page used rest = record {
  row = row;
  front = [];
  rest = x;
  after = used;
  left = (refl, refl);
  split = refl;
  later = rest;
  used_is = omega arith;
}

-- a run code before what is left
code_rest : (width : ℕ) (rows : List (List Color)) (pixels : List Color) (color : Color) (makeup : Option ℕ) (code : RunItem) (t :
    PageState) (x : List Bool) (page : List (List Color)) (used : ℕ) → CodeThere width rows pixels color makeup code t
    → Rest width t x page used → RowRest width rows (inside pixels color makeup) (code_bits code ++ x) page (length (code_bits code) + used)
code_rest width rows pixels color makeup code t x page used step rest =
    let there = step_from_put (put rows) width pixels color makeup code t step in
    let row = opened width rows there.0 x page used (rw (← there.2) at rest) in
    record {
      row = row.row;
      front = code_bits code ++ row.front;
      rest = row.rest;
      after = row.after;
      left = code_left width pixels color
          makeup code there.0 row.row row.front there.1 row.left;
      split = ap (λ l. code_bits code ++ l) row.split ∙
          sym (append_assoc (code_bits code) row.front row.rest);
      later = row.later;
      used_is = omega (
        arith,
        row.used_is,
        length-append
            (code_bits code) row.front,
      );
    }

abbrev Bounded : ℕ → PageState → Type 0
Bounded width first = IsWidth width
Bounded width (row_start rows) = (IsWidth width) × (length rows ≤ 20000)
Bounded width (in_row rows pixels color makeup) = (IsWidth width) × (length rows < 20000)
Bounded width (row_end rows) = (IsWidth width) × (length rows ≤ 20000)

put_bounded : (width : ℕ) (rows : List (List Color)) (state : RowState) → IsWidth width → length rows < 20000
    → Bounded width (put rows state)
put_bounded width rows (inside pixels color makeup) some room = (some, room)
put_bounded width rows (whole row) some room = (some, omega (arith, length_push rows row))

code_bounded : (width : ℕ) (rows : List (List Color)) (pixels : List Color) (color : Color) (makeup : Option ℕ) (code : RunItem) (t :
    PageState) → IsWidth width → length rows < 20000 → CodeThere width rows pixels color makeup code t → Bounded width t
code_bounded width rows pixels color makeup code t some room step =
    let there = step_from_put (put rows) width pixels color makeup code t step in
    rw there.2 at (put_bounded width rows there.0 some room)

step_bounded : (width : ℕ) (s : PageState) (i : PageItem) (t : PageState) → Step width s i t → Bounded width s → Bounded width t
step_bounded width first (eol n) t step h = let start : Bounded width (row_start []) = (h, omega arith) in subst (Bounded width) step.1
    start
step_bounded width first (coded code) t step h = code_bounded width [] [] White None code t h (omega arith) step
step_bounded width (row_start rows) (eol n) t step h = absurd step
step_bounded width (row_start rows) (coded code) t step h = code_bounded width rows [] White None code t h.0 step.0 step.1
step_bounded width (in_row rows pixels c high) (eol n) t step h = absurd step
step_bounded width (in_row rows pixels c high) (coded code) t step h = code_bounded width rows pixels c high code t h.0 h.1 step
step_bounded width (row_end rows) (eol n) t step h = let start : Bounded width (row_start rows) = h in subst (Bounded width) step.1 start
step_bounded width (row_end rows) (coded code) t step h = absurd step

-- the first row, after no or one EOL
page_of : (width : ℕ) (lead x : List Bool) (page : List (List Color)) (used : ℕ) → IsWidth width → IsLead lead
    → RowRest width [] row_begin x page used → ReadsAs width (lead ++ x) page (length lead + used)
page_of width lead x page used some leads rest =
    let spelled = row_spelled width rest.row rest.front some rest.left in
    let bits : List Bool = rest.front ++ rest.later.bits in
    record {
      lead = lead;
      bits = bits;
      rest = rest.later.rest;
      last = rest.later.last;
      few = rest.later.few;
      leads = leads;
      rows = record {
        row = rest.row;
        later = rest.later.more;
        front = rest.front;
        after = rest.later.bits;
        rows_are = rest.later.pages;
        spells = spelled.0;
        wide = spelled.1;
        each = rest.later.later;
        split = refl;
      };
      ends = rest.later.ends;
      split = ap (λ l. lead ++ l) (rest.split ∙ (ap (λ l. rest.front ++ l) rest.later.split ∙
          sym (append_assoc rest.front rest.later.bits rest.later.rest)));
      used_is = omega (arith, rest.used_is, rest.later.used_is, length-append rest.front rest.later.bits);
    }

-- an EOL after a row
eol_left : (width : ℕ) (rows : List (List Color)) (n : ℕ) (x : List Bool) (page : List (List Color)) (used : ℕ) → IsWidth width → 11 ≤ n
    → RowRest width rows row_begin x page used ⊎ EndRest rows x page used
    → TailRest width rows (eol_word n ++ x) page (length (eol_word n) + used)
eol_left width rows n x page used some long (inl rest) =
    let spelled = row_spelled width rest.row rest.front some rest.left in
    let bits : List Bool = rest.front ++ rest.later.bits in
    record {
      more = rest.row ∷ rest.later.more;
      bits = eol_word n ++ bits;
      rest = rest.later.rest;
      last = rest.later.last;
      later = (n, rest.front, rest.later.bits, long, spelled.0, spelled.1, rest.later.later, refl);
      split = ap (λ l. eol_word n ++ l) (rest.split ∙ (ap (λ l. rest.front ++ l) rest.later.split ∙
          sym (append_assoc rest.front rest.later.bits rest.later.rest))) ∙ sym (append_assoc (eol_word n) bits rest.later.rest);
      pages = rest.later.pages ∙ append_assoc rows (rest.row ∷ []) rest.later.more;
      few = rest.later.few;
      ends = rest.later.ends;
      used_is = omega (arith, rest.used_is, rest.later.used_is, length-append rest.front rest.later.bits, length-append (eol_word n) bits);
    }
eol_left width rows n x page used some long (inr end) = record {
  more = [];
  bits = [];
  rest = eol_word n ++ x;
  last = length (eol_word n) +
      used;
  later = refl;
  split = refl;
  pages = end.pages ∙
      sym (append-nil rows);
  few = end.few;
  ends = ended end.ends;
  used_is = omega arith;
}
  where
    ended : EndsThere x used → IsEnd (eol_word n ++ x) (length (eol_word n) + used)
    ended (inl none) = inr (inl (n, x, long, refl, none.0, omega (arith, none.1)))
    ended (inr eols) = inr (inr (
      n ∷ eols.0,
      eols.1,
      record {
        long = (long, eols.2.long);
        few = omega (arith, eols.2.few);
        split = ap (λ l.
            eol_word n ++ l) eols.2.split ∙ sym (append_assoc (eol_word n) (eol_words eols.0) eols.1);
        no_more = λ h. eols.2.no_more (omega
            arith);
      },
      omega (arith, eols.3),
      omega (arith, eols.4, length-append (eol_word n) (eol_words eols.0)),
    ))

-- an item before what is left
item_left : (width : ℕ) (s : PageState) (i : PageItem) (t : PageState) (x : List Bool) (page : List (List Color)) (used : ℕ)
    → Bounded width s → Step width s i t → Rest width t x page used → Rest width s (item_word i ++ x) page (length (item_word i) + used)
item_left width first (eol n) t x page used h step rest = begun (rw (← step.1) at rest)
  where
    begun : RowRest width [] row_begin x page used ⊎ EndRest [] x page used
        → ReadsAs width (eol_word n ++ x) page (length (eol_word n) + used)
    begun (inl row) = page_of width (eol_word n) x page used h (inr (n, step.0, refl)) row
    begun (inr end) = absurd (omega (arith, end.some))
item_left width first (coded code) t x page used h step rest =
    let row = code_rest width [] [] White None code t x page used step rest in
    let page_is = page_of width [] (code_bits code ++ x) page (length (code_bits code) + used) h (inl refl) row in
    plain page_is
  where
    plain : {v : ℕ} {z : List Bool} → ReadsAs width z page (0 + v) → ReadsAs width z page v
    plain {v} reads = let same : 0 + v ≡ v = omega arith in rw same at reads
item_left width (row_start rows) (eol n) t x page used h step rest = absurd step
item_left width (row_start rows) (coded code) t x page used h step rest = inl (code_rest width rows [] White None code t x page used step.1
    rest)
item_left width (in_row rows pixels color makeup) (eol n) t x page used h step rest = absurd step
item_left width (in_row rows pixels color makeup) (coded code) t x page used h step rest = code_rest width rows pixels color makeup code t x
    page used step rest
item_left width (row_end rows) (eol n) t x page used h step rest = eol_left width rows n x page used h.0 step.0 (rw (← step.1) at rest)
item_left width (row_end rows) (coded code) t x page used h step rest = absurd step

-- The end

pub never_stops : (width : ℕ) (rows : List (List Color)) (pixels : List Color) (color : Color) (makeup : Option ℕ) (x : List Bool)
    (page : List
    (List Color)) (n : ℕ) → look_in_row width rows pixels color makeup x ≡ stop page n → ⊥
never_stops width rows pixels color makeup x page n e = code_goes coded (λ row. put rows (whole row)) (λ more next high. put rows (inside
    more next high)) width pixels color makeup x page n e

ended : (rows page : List (List Color)) (m n : ℕ) → ends_with rows m ≡ stop page n → (page ≡ rows) × (0 < length rows) × (n ≡ m)
ended [] page m n e = cc
ended (row ∷ rows) page m n e = (cc, omega arith, cc)

five_are : (x : List Bool) → bits_of_five x ≡ bits_of_eols 5 x
unfolding bits_of_five
five_are x = refl

at_end : (width : ℕ) (s : PageState) (x : List Bool) (page : List (List Color)) (n : ℕ) → Bounded width s → look width s x ≡ stop page n
    → Rest width s x page n
at_end width first x page n h e = absurd (seen (zeros_before x) e)
  where
    test : (b : Bool) (m : ℕ) → cond b (look_in_row width [] [] White None x) (go (eol m) (row_start [])) ≡ stop page n → ⊥
    test true m e = never_stops width [] [] White None x page n e
    test false m e = cc

    seen : (o : Option ℕ) → by_eol o (refuse NoRows) (λ m. go (eol m) (row_start [])) (look_in_row width [] [] White None x) ≡ stop page n →
        ⊥
    seen None e = cc
    seen (Some m) e = test (ltb m 11) m e
at_end width (row_start rows) x page n h e = inr (seen (zeros_before x) refl e)
  where
    some_eols : (m : ℕ) → zeros_before x ≡ Some m → 11 ≤ m → (eols : List ℕ) (rest : List Bool) → AreEols 5 x eols rest → 1 ≤ length eols
    some_eols m is long [] rest are =
        let there = zeros_split x m is in
        absurd (are.no_more (omega arith) (m, there.0, long, sym are.split ∙ there.1))
    some_eols m is long (f ∷ eols) rest are = omega arith

    in_a_row : (b : Bool) → cond b (look_in_row width rows [] White None x) (refuse TooManyCodedRows) ≡ stop page n → ⊥
    in_a_row true e = never_stops width rows [] White None x page n e
    in_a_row false e = cc

    test : (m : ℕ) (b : Bool) → zeros_before x ≡ Some m → ltb m 11 ≡ b
        → cond b (cond (ltb (length rows) 20000) (look_in_row width rows [] White None x) (refuse TooManyCodedRows)) (ends_with rows
        (bits_of_five x)) ≡ stop page n → EndRest rows x page n
    test m true is l e = absurd (in_a_row (ltb (length rows) 20000) e)
    test m false is l e =
        let end = ended rows page (bits_of_five x) n e in
        let are = eols_found 5 x in
        record {
          pages = end.0;
          some = end.1;
          few = rw end.0 h.1;
          ends = inr (
            are.0,
            are.1,
            are.2,
            some_eols m is (ltb-false m 11 l) are.0
                are.1 are.2,
            end.2 ∙ (five_are x ∙ eols_counted 5 x are.0 are.1 are.2),
          );
        }

    seen : (o : Option ℕ) → zeros_before x ≡ o
        → by_eol o (ends_with rows 0) (λ m. ends_with rows (bits_of_five x)) (cond (ltb (length rows) 20000) (look_in_row width rows []
        White None x) (refuse TooManyCodedRows)) ≡ stop page n → EndRest rows x page n
    seen None is e =
        let end = ended rows page 0 n e in
        record { pages = end.0; some = end.1; few = rw end.0 h.1; ends = inl (none_zeros x is, end.2) }
    seen (Some m) is e = test m (ltb m 11) is refl e
at_end width (in_row rows pixels c high) x page n h e = absurd (never_stops width rows pixels c high x page n e)
at_end width (row_end rows) x page n h e = seen (zeros_before x) refl e
  where
    test : (m : ℕ) (b : Bool) → ◌≡◌ {A = PageLook} (cond b (refuse BadCode) (go (eol m) (row_start rows))) (stop page n) → ⊥
    test m true e = cc
    test m false e = cc

    seen : (o : Option ℕ) → zeros_before x ≡ o
        → by_eol o (stop rows 0) (λ m. go (eol m) (row_start rows)) (refuse BadCode) ≡ stop page n → TailRest width rows x page n
    seen None is e =
        let same : page ≡ rows = cc in
        let none : n ≡ 0 = cc in
        record {
          more = [];
          bits = [];
          rest = x;
          last = n;
          later = refl;
          split = refl;
          pages = same ∙
              sym (append-nil rows);
          few = rw same h.1;
          ends = inl (none_zeros x is, none);
          used_is = omega arith;
        }
    seen (Some m) is e = absurd (test m (ltb m 11) e)

walk_left : (width : ℕ) (items : List PageItem) (s t : PageState) (y : List Bool) (page : List (List Color)) (n : ℕ)
    → Walk (Step width) s items t → Bounded width s → look width t y ≡ stop page n
    → Rest width s (spell item_word items ++ y) page (length (spell item_word items) + n)
walk_left width [] s t y page n walk bounded e =
    let zero_more : 0 + n ≡ n = omega arith in
    rw zero_more (at_end width s y page n bounded (rw (← walk) at e))
walk_left width (i ∷ is) s t y page n walk bounded e =
    let rest = walk_left width is walk.0 t y page n walk.2 (step_bounded width s i walk.0 walk.1 bounded) e in
    let all = item_left width s i walk.0 (spell item_word is ++ y) page (length (spell item_word is) + n) bounded walk.1 rest in
    let places : length (item_word i) + (length (spell item_word is) + n) ≡ length (item_word i ++ spell item_word is) + n = omega (
      arith,
      length-append (item_word i) (spell item_word is),
    ) in
    rw (append_assoc, ← places) all

-- what is read is so spelled
pub reads_only : (width : ℕ) (x : List Bool) (page : List (List Color)) (used : ℕ) → IsWidth width → read_page width x ≡ Ok (page, used)
    → ReadsAs width x page used
unfolding reading
reads_only width x page used some e =
    let h = halts item_word (Step width) (look width) BadCode (finds width) (suc (length x)) first 0 x (omega arith) in
    let answer = stops (look width h.end h.rest) (0 + length (spell item_word h.items)) used page (rw e at h.answers) in
    let rest = walk_left width h.items first h.end h.rest page answer.0 h.walk some answer.1 in
    let used_is : length (spell item_word h.items) + answer.0 ≡ used = omega (arith, answer.2) in
    rw (h.spelled, ← used_is) rest
