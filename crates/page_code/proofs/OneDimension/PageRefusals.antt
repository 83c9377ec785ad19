-- A page is refused exactly where it goes no further after whole items, and for that reason.
use Rattle.std.proofs.Common.{ℕ, ◌≡◌, ◌+◌, ◌≤◌, ◌⊎◌, inl, inr, Bool, List, [], ◌++◌, length, replicate, refl, ap, sym, ◌∙◌}
use Rattle.std.proofs.Common.{arith, subst}
use Rattle.std.specs.Prelude.{Result, Ok, Err}
use Rattle.std.proofs.lemmas.List.{length-replicate}
use Rattle.raster.specs.declared.row.Color.{Color}
use Rattle.raster.specs.Pixels.{IsWidth}
use Rattle.run_tables.specs.declared.fault.CodeFaultKind.{CodeFaultKind}
use Rattle.run_tables.specs.Fronts.{IsFront, spell}
use Rattle.run_tables.specs.Fronts.Look.{refuse}
use Rattle.run_tables.proofs.RowKinds.{one_row_kind}
use Rattle.page_code.specs.OneDimension.Fronts.{PageItem, item_word, PageState, Step, look, reading, read_page}
use Rattle.page_code.specs.OneDimension.Fronts.PageState.{first, row_start, row_end}
use Rattle.page_code.specs.OneDimension.KindLaws.{RefusesPagesExactly, OneKind}
use Rattle.page_code.specs.OneDimension.Kinds.{PagePlace, IsPagePart, PageKind, IsRefusedPage}
use Rattle.page_code.specs.OneDimension.Kinds.PagePlace.{page_begin, line_begin, in_row, line_end}
use Rattle.page_code.specs.OneDimension.Pages.{ReadsAs}
use Rattle.page_code.proofs.OneDimension.Laws.{reads_pages_exactly, refuses_at_longest}
use Rattle.page_code.proofs.OneDimension.PageKinds.{place_of, page_kind_seen, page_kind_sees, same_kind}
use Rattle.page_code.proofs.OneDimension.PageParts.{page_part_way, page_part_from}
use Rattle.page_code.proofs.OneDimension.RowInPage.{reading_walk, reading_refuse}

pub refused_page : (width : ℕ) (x : List Bool) (place : ℕ) (kind : CodeFaultKind) → IsWidth width → read_page width x ≡ Err (place, kind)
    → IsRefusedPage width x place kind
refused_page width x place kind wide e =
    let longest = refuses_at_longest width x place kind e in
    record {
      front = spell item_word longest.items;
      rest = longest.front.rest;
      at = place_of longest.front.end;
      split = longest.front.spelled;
      part = page_part_from width longest.items longest.front.end wide longest.front.walk;
      place_is = longest.place_is;
      kind_is = page_kind_seen width longest.front.end longest.front.rest kind longest.kind_is;
    }

-- what is refused is seen at the state that items lead to
kind_at : (width : ℕ) (at : PagePlace) (s : PageState) (rest : List Bool) (kind : CodeFaultKind) → at ≡ place_of s
    → PageKind width at rest kind → look width s rest ≡ refuse kind
kind_at width at s rest kind at_is is = page_kind_sees width s rest kind (rw at_is at is)

page_refused : (width : ℕ) (x : List Bool) (place : ℕ) (kind : CodeFaultKind) → IsWidth width → IsRefusedPage width x place kind
    → read_page width x ≡ Err (place, kind)
page_refused width x place kind wide refused =
    let way = page_part_way width refused.front refused.at wide refused.part in
    let items : List PageItem = way.1.items in
    let front_is : spell item_word items ≡ refused.front = way.1.spelled in
    let sees : look width way.0 refused.rest ≡ refuse kind = kind_at width refused.at way.0 refused.rest kind way.2 refused.kind_is in
    let end : 0 + length (spell item_word items) ≡ place = omega (arith, ap length front_is, refused.place_is) in
    ap (reading width first 0) (refused.split ∙ ap (λ l. l ++ refused.rest) (sym front_is)) ∙
    (reading_walk width items first way.0 0 refused.rest way.1.walk ∙
    (reading_refuse width way.0 (0 + length (spell item_word items)) refused.rest kind sees ∙
    ap (λ (p : ℕ). Err (p, kind)) end))

page_or_refused : (width : ℕ) (x : List Bool) → IsWidth width → (r : Result (List (List Color) × ℕ) (ℕ × CodeFaultKind))
    → read_page width x ≡ r
    → ((page : List (List Color)) × (used : ℕ) × ReadsAs width x page used) ⊎ ((place : ℕ) × (kind : CodeFaultKind)
    × IsRefusedPage width x place kind)
page_or_refused width x wide (Ok read) e = inl (read.0, read.1, (reads_pages_exactly width x read.0 read.1 wide).0 e)
page_or_refused width x wide (Err refused) e = inr (refused.0, refused.1, refused_page width x refused.0 refused.1 wide e)

pub not_both : (width : ℕ) (x : List Bool) (page : List (List Color)) (used place : ℕ) (kind : CodeFaultKind) → IsWidth width
    → ReadsAs width x page used → ¬ IsRefusedPage width x place kind
not_both width x page used place kind wide reads refused =
    let read : read_page width x ≡ Ok (page, used) = (reads_pages_exactly width x page used wide).1 reads in
    let is : read_page width x ≡ Err (place, kind) = page_refused width x place kind wide refused in
    let same : ◌≡◌ {A = Result (List (List Color) × ℕ) (ℕ × CodeFaultKind)} (Ok (page, used)) (Err (place, kind)) = sym read ∙ is in
    cc

one_refused : (width : ℕ) (x : List Bool) (p q : ℕ) (a b : CodeFaultKind) → IsWidth width → IsRefusedPage width x p a
    → IsRefusedPage width x q b → (p ≡ q) × (a ≡ b)
one_refused width x p q a b wide one two =
    let same : ◌≡◌ {A = Result (List (List Color) × ℕ) (ℕ × CodeFaultKind)} (Err (p, a)) (Err (q, b)) = sym (page_refused width x p a
    wide one) ∙ page_refused width x q b wide two in
    let pair : ◌≡◌ {A = ℕ × CodeFaultKind} (p, a) (q, b) = cc in
    (ap (λ (r : ℕ × CodeFaultKind). r.0) pair, ap (λ (r : ℕ × CodeFaultKind). r.1) pair)

no_longer : (width : ℕ) (x : List Bool) (place : ℕ) (kind : CodeFaultKind) (front rest : List Bool) (at : PagePlace) → IsWidth width
    → IsRefusedPage width x place kind → IsPagePart width front at → x ≡ front ++ rest → length front ≤ place
no_longer width x place kind front rest at wide refused part split =
    let way = page_part_way width front at wide part in
    let there : IsFront item_word (Step width) first x way.1.items = record {
      end = way.0;
      rest = rest;
      walk = way.1.walk;
      spelled = split ∙ ap (λ l. l ++ rest) (sym way.1.spelled);
    } in
    omega (
      arith,
      (refuses_at_longest width x place kind (page_refused width x place kind wide refused)).longest way.1.items there,
      ap length way.1.spelled,
    )

pub refuses_pages_exactly : RefusesPagesExactly
refuses_pages_exactly = record {
  named = λ width x place kind wide. (refused_page width x place kind wide, page_refused width x place kind wide);
  some = λ width x wide. page_or_refused width x wide (read_page width x) refl;
  none = λ width x page used place kind wide reads refused. not_both width x page used place kind wide reads refused;
  one = λ width x p q a b wide one two. one_refused width x p q a b wide one two;
  longest = λ width x place kind front rest at wide refused part split. no_longer width x place kind front rest at wide refused part split;
}

-- a state of the place, whatever its rows are
abbrev OneAt : ℕ → PagePlace → List Bool → CodeFaultKind → CodeFaultKind → Type 0
OneAt width at x a b = PageKind width at x a → PageKind width at x b → a ≡ b

one_at : (width : ℕ) (s : PageState) (x : List Bool) (a b : CodeFaultKind) → OneAt width (place_of s) x a b
one_at width s x a b one two = same_kind a b (sym (page_kind_sees width s x a one) ∙ page_kind_sees width s x b two)

pub one_kind : OneKind
one_kind width page_begin x a b = one_at width first x a b
one_kind width (line_begin rows) x a b =
    subst (λ (n : ℕ). OneAt width (line_begin n) x a b) (length-replicate rows []) (one_at width (row_start (replicate rows [])) x a b)
one_kind width (in_row so_far color among) x a b = one_row_kind width so_far color among x a b
one_kind width line_end x a b = one_at width (row_end []) x a b
