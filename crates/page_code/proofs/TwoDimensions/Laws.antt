-- The laws of reading T.6 pages, joined.
use Rattle.std.proofs.Common.{ℕ, ◌+◌, ◌≤◌, ◌<◌, Bool, true, false, inl, inr, List, length, refl, subst, sym, arith, cond}
use Rattle.std.proofs.lemmas.Bool.{le-ltb, cases_eq}
use Rattle.raster.specs.declared.row.Color.{Color}
use Rattle.raster.specs.Changes.{IsNextChange}
use Rattle.run_tables.specs.declared.fault.CodeFaultKind.TheVariants.{BadCode}
use Rattle.run_tables.proofs.FrontWalks.{refused_at, fronts_nested}
use Rattle.page_code.specs.TwoDimensions.Positions.{CodingLine, IsB1, IsB2, right_of_a0, b1_of, b2_of}
use Rattle.page_code.specs.TwoDimensions.Fronts.{page_item_word, PageStep, page_look, page_begin, after_mode, reading}
use Rattle.page_code.specs.TwoDimensions.Laws.{FindsPositions, PassLeadsOn, ReadsExactly, RefusesNoPage, RefusesAtLongest, OneFront}
use Rattle.page_code.proofs.TwoDimensions.Positions.{b1_found, b1_is, b2_found, b2_is, change_found, change_is}
use Rattle.page_code.proofs.TwoDimensions.PageLook.{finds}
use Rattle.page_code.proofs.TwoDimensions.ReadsOnly.{reads_only}
use Rattle.page_code.proofs.TwoDimensions.ReadsAll.{reads_all}

pub right_bound : (line : CodingLine) → right_of_a0 line ≤ length line.pixels + 1
right_bound line = seen line.begun
  where
    seen : (b : Bool) → length line.pixels + cond b 1 0 ≤ length line.pixels + 1
    seen true = omega arith
    seen false = omega arith

-- b1 is not to the left of what is right of a0, where the line isn't whole
b1_right : (reference : List Color) (line : CodingLine) (b1 : ℕ) → IsB1 reference line b1 → length line.pixels < length reference
    → right_of_a0 line ≤ b1
b1_right reference line b1 is short = elim (cases_eq b1 (length reference)) [
  | inl e ↦ omega (arith, e, right_bound line, short)
  | inr ne ↦ (is.changing (omega (arith, is.bound, ne))).0
]

b2_right : (reference : List Color) (b1 b2 : ℕ) → IsB2 reference b1 b2 → b1 ≤ length reference → b1 ≤ b2
b2_right reference b1 b2 is bound = elim (cases_eq b2 (length reference)) [
  | inl e ↦ omega (arith, e, bound)
  | inr ne ↦ omega (arith, (is.changing (omega (arith, is.bound, ne))).0)
]

pub pass_leads_on : PassLeadsOn
unfolding after_mode
pass_leads_on width page line wide short =
    let b1 = b1_found page.reference line in
    let b2 = b2_found page.reference line in
    let right = b1_right page.reference line (b1_of page.reference line) b1 (omega (arith, wide, short)) in
    let up = b2_right page.reference (b1_of page.reference line) (b2_of page.reference line) b2 b1.bound in
    rw (
      le-ltb (b2_of page.reference line) (right_of_a0 line) (omega (arith, right, up)),
      le-ltb width (b2_of page.reference line) (omega (arith, wide, b2.bound)),
    ) refl

pub finds_positions : FindsPositions
finds_positions = (
  λ reference line b1. (λ is. b1_is reference line b1 is, λ e. subst (λ b. IsB1 reference line b) (sym e) (b1_found reference line)),
  λ reference line b1 b2 is1. (
    λ is2. b2_is reference line b1 b2 is1 is2,
    λ e. subst (λ b. IsB2 reference b1 b) (sym e) (subst (λ b. IsB2
        reference b (b2_of reference line)) (sym (b1_is reference line b1 is1)) (b2_found reference line)),
  ),
  λ row from place. (λ is. change_is row from place is, λ e. subst (λ b. IsNextChange row from b) (sym e) (change_found row from)),
)

pub reads_pages_exactly : ReadsExactly
reads_pages_exactly width x rows used wide = (
  λ e. reads_only width x rows used e,
  λ reads. reads_all width x rows used (omega (
    arith,
    wide.0,
  )) wide.1 reads,
)

pub refuses_no_page : RefusesNoPage
refuses_no_page width x place kind rows used wide e reads = let read = reads_all width x rows used (omega (arith, wide.0)) wide.1 reads in
    cc

pub refuses_at_longest : RefusesAtLongest
unfolding reading
refuses_at_longest width x place kind e = refused_at page_item_word (PageStep width) (page_look width) BadCode (finds width) (page_begin
    width) x place kind e

pub one_front : OneFront
one_front width x items others one two = fronts_nested page_item_word (PageStep width) (page_look width) BadCode (finds width) (page_begin
    width) x items others one two
