-- White rows after a white one, each written by V0 alone.
use Rattle.std.proofs.Common.{ℕ, zero, suc, ◌≡◌, ◌+◌, ◌-◌, ◌*◌, ◌/◌, ◌%◌, ◌^◌, ◌<◌, Bool, true, false, List, [], ◌∷◌, ◌++◌, length, drop}
use Rattle.std.proofs.Common.{nat_eq}
use Rattle.std.proofs.Common.{refl, ap, sym, ◌∙◌, subst, arith, replicate}
use Rattle.std.specs.Prelude.{Ok, slice_index_or}
use Rattle.std.specs.Int.{bit_at}
use Rattle.std.proofs.lemmas.Bool.{false≢true, le-ltb}
use Rattle.std.proofs.lemmas.List.{drop-drop, length-replicate}
use Rattle.raster.specs.declared.row.Color.{Color}
use Rattle.raster.specs.declared.row.Color.TheVariants.{White, Black}
use Rattle.raster.proofs.WordLemmas.{bit_at_shr}
use Rattle.run_tables.specs.Numbers.{AreFirst}
use Rattle.run_tables.specs.Reading.{Reading, rest_of}
use Rattle.run_tables.proofs.NumberLemmas.{front_moved}
use Rattle.raster.specs.declared.coding.Coding.TheVariants.{T6}
use Rattle.page_code.specs.declared.t6.mode.ModeCode.TheVariants.{Vertical}
use Rattle.page_code.specs.declared.t6.mode.Shift.TheVariants.{V0}
use Rattle.page_code.specs.declared.page.Progress.{Progress}
use Rattle.page_code.specs.RowsSoFar.{IsFurther, IsReadTo, LeadsTo, between_rows}
use Rattle.page_code.specs.TwoDimensions.Positions.{line_begin, white_line, b1_of}
use Rattle.page_code.specs.TwoDimensions.Fronts.{page_item_word, PageSoFar, PageStep, page_begin, row_added, after_mode}
use Rattle.page_code.specs.TwoDimensions.Fronts.PageItem.{mode_item}
use Rattle.page_code.specs.TwoDimensions.Fronts.PageState.{between}
use Rattle.page_code.specs.TwoDimensions.Writing.{reference_at}
use Rattle.page_code.proofs.FrontEnds.{leads_on}
use Rattle.page_code.proofs.TwoDimensions.Positions.{b1_is}
use Rattle.page_code.proofs.TwoDimensions.Reading.{mode_ended_whole}
use Rattle.page_code.proofs.TwoDimensions.StepsOn.{last_added, mode_stands}

-- a white row's pixels are white
white_at : (width k : ℕ) → slice_index_or (replicate width White) k White ≡ White
white_at zero k = refl
white_at (suc width) zero = refl
white_at (suc width) (suc k) = white_at width k

-- b1 of a white reference line is its end
white_b1 : (width : ℕ) → b1_of (white_line width) line_begin ≡ width
white_b1 width = sym (b1_is (white_line width) line_begin width (record {
  bound = omega (arith, length-replicate width White);
  changing = λ less. absurd (omega (arith, less, length-replicate width White));
  least = λ k from less is. (let both : White ≡ Black = sym (white_at width k) ∙ is.1 in cc);
}))

-- V0 after a white line, before the first pixel, writes a white row
white_mode : (width : ℕ) (rows : List (List Color))
    → after_mode width (record { rows = rows; reference = white_line width }) line_begin (Vertical V0)
    ≡ Ok (between (row_added (record { rows = rows; reference = white_line width }) (white_line width)))
unfolding after_mode
white_mode width rows =
    let all : width + 0 - 0 - 0 ≡ width = omega arith in
    rw (white_b1 width, le-ltb (width + 0) 0 (omega arith), le-ltb (width + 0) (width + 0) (omega arith), all)
    (ap Ok (mode_ended_whole width (record { rows = rows; reference = white_line width })
    (record { pixels = replicate width White; begun = true; color = Black }) (length-replicate width White)))

-- bits that begin with a 1
begun : (x : List Bool) → slice_index_or x 0 false ≡ true → x ≡ true ∷ drop 1 x
begun [] e = absurd (false≢true e)
begun (b ∷ x) e = ap (λ (c : Bool). c ∷ x) e

-- after the bits that were used comes a 1, if it is a word's first bit
pub one_next : (old : Reading) (used word : ℕ) → AreFirst (57 - used) (drop used (rest_of old)) word → word / 2 ^ 63 ≡ 1 → used < 57
    → drop (old.place + used) old.bits ≡ true ∷ drop (old.place + used + 1) old.bits
one_next old used word first one few =
    let bit : bit_at word 63 ≡ 1 = sym (bit_at_shr word 63 0) ∙ ap (λ (w : ℕ). bit_at w 0) one in
    let here : drop used (rest_of old) ≡ drop (old.place + used) old.bits = drop-drop used old.place old.bits in
    let there = begun (drop used (rest_of old)) (sym (first 0 (omega (arith, few))) ∙ ap (λ (b : ℕ). nat_eq b 1) bit) in
    sym here ∙ (there ∙ ap (λ (l : List Bool). true ∷ l) (ap (drop 1) here ∙ drop-drop 1 (old.place + used) old.bits))

-- the word after that 1
pub word_moved : (old : Reading) (used word : ℕ) → used < 57 → AreFirst (57 - used) (drop used (rest_of old)) word
    → AreFirst (57 - (used + 1)) (drop (used + 1) (rest_of old)) (word * 2 ^ 1 % 2 ^ 64)
word_moved old used word few first =
    let left : 57 - used - 1 ≡ 57 - (used + 1) = omega arith in
    rw (← left, ← drop-drop 1 used (rest_of old)) (front_moved 1 (57 - used) (drop used (rest_of old)) word (omega (arith, few))
    (omega arith) first)

-- one white row more
pub white_on : (width : ℕ) (bits : List Bool) (rows : List (List Color)) (place : ℕ) → length rows < 20000
    → reference_at (white_line width) rows (length rows) ≡ white_line width → IsReadTo T6 width bits rows place
    → drop place bits ≡ true ∷ drop (place + 1) bits → IsReadTo T6 width bits (rows ++ white_line width ∷ []) (place + 1)
unfolding IsReadTo
white_on width bits rows place room white kept one =
    let page : PageSoFar = record { rows = rows; reference = reference_at (white_line width) rows (length rows) } in
    let end : ◌≡◌ {A = PageSoFar} (row_added page (white_line width)) (record {
      rows = rows ++ white_line width ∷ [];
      reference = reference_at (white_line width) (rows ++ white_line width ∷ []) (length (rows ++ white_line width ∷ []));
    }) = ap (λ (r : List Color). record { rows = rows ++ white_line width ∷ []; reference = r })
    (sym (last_added (white_line width) (white_line width) rows)) in
    let leads : after_mode width page line_begin (Vertical V0) ≡ Ok (between (row_added page (white_line width))) =
    subst (λ (r : List Color). after_mode width (record { rows = rows; reference = r }) line_begin (Vertical V0)
    ≡ Ok (between (row_added (record { rows = rows; reference = r }) (white_line width)))) (sym white) (white_mode width rows) in
    subst (λ (p : PageSoFar). LeadsTo page_item_word (PageStep width) (page_begin width) (between p) bits (place + 1)) end
    (leads_on page_item_word (PageStep width) (page_begin width) (between_rows width rows) bits place kept
    (between (row_added page (white_line width))) (mode_item (Vertical V0) ∷ []) (drop (place + 1) bits) (place + 1)
    (between (row_added page (white_line width)), (room, record { stands = mode_stands (Vertical V0); leads = leads }), refl)
    one refl)

-- the last row stays white
pub white_last : (width : ℕ) (rows : List (List Color))
    → reference_at (white_line width) (rows ++ white_line width ∷ []) (length (rows ++ white_line width ∷ [])) ≡ white_line width
white_last width rows = last_added (white_line width) (white_line width) rows

-- after white rows a reader of a page is as far as before them, or further
pub further_on : (bits : List Bool) (old mid to : Progress) (was now : Reading) → mid.page.width ≡ old.page.width
    → mid.page.fine ≡ old.page.fine → was ≡ record { bits = bits; place = mid.place } → IsFurther T6 was.bits mid to
    → now ≡ record { bits = was.bits; place = to.place } → IsFurther T6 bits old to × (now ≡ record { bits = bits; place = to.place })
further_on bits old mid to was now width fine is more after = (
  record {
    width = more.width ∙ width;
    fine = more.fine ∙ fine;
    read = subst (λ (r : Reading). IsReadTo T6 to.page.width r.bits to.page.rows to.place) is more.read;
  },
  after ∙ ap (λ (r : Reading). record { bits = r.bits; place = to.place }) is,
)
