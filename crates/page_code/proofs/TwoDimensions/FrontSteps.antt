-- What pass and vertical modes do to a front.
use Rattle.std.proofs.Common.{ℕ, ◌≡◌, ◌+◌, ◌-◌, ◌%◌, ◌<◌, ◌≤◌, ◌++◌, inl, inr, List, length, take, replicate, true}
use Rattle.std.proofs.Common.{arith, refl, sym, ap, subst, ◌∙◌}
use Rattle.std.specs.Prelude.{slice_index_or, slice_set}
use Rattle.std.proofs.lemmas.Bool.{cases_eq}
use Rattle.std.proofs.lemmas.List.{append-nil, length-set, length-take-le, take_more_set}
use Rattle.raster.specs.declared.row.Color.{Color}
use Rattle.raster.specs.declared.row.Color.TheVariants.{White, Black}
use Rattle.raster.specs.Changes.{turned}
use Rattle.raster.specs.Pixels.{other}
use Rattle.run_tables.specs.declared.fault.CodeFaultKind.{CodeFaultKind}
use Rattle.page_code.specs.declared.t6.front.Front.{Front}
use Rattle.page_code.specs.declared.t6.mode.ModeCode.TheVariants.{Pass, Vertical}
use Rattle.page_code.specs.declared.t6.mode.Shift.{Shift}
use Rattle.page_code.specs.TwoDimensions.Changes.{AreHeld}
use Rattle.page_code.specs.TwoDimensions.Changes.{turned as turned_at}
use Rattle.page_code.specs.TwoDimensions.Lines.{FitsLists, IsFoundAt, IsSoughtFrom, Leads, Refuses, RefusesA1, line_before, line_of}
use Rattle.page_code.specs.TwoDimensions.Modes.{to_left, to_right}
use Rattle.page_code.specs.TwoDimensions.Positions.{CodingLine, IsFirstTo, a0_of, right_of}
use Rattle.page_code.proofs.TwoDimensions.ChangeLists.{turned_even as even_black, turned_odd as odd_white}
use Rattle.page_code.proofs.TwoDimensions.Lines.{
  begun_line,
  ends_held,
  few_left,
  found_first,
  left_later,
  left_turned,
  length_line,
  line_on,
  line_turned,
}
use Rattle.page_code.proofs.TwoDimensions.Lines.{right_line, turned_even, turned_odd}
use Rattle.page_code.proofs.TwoDimensions.StepsOn.{backwards_leads, pass_leads, past_leads, vertical_leads}

-- the color of the index where b1 is, is the other one than a0's
color_sought : (at : ℕ) (places : List ℕ) → (at + length places) % 2 ≡ 0 → turned_at at ≡ other (turned White places)
color_sought at places even = elim (cases_eq (at % 2) 0) [
  | inl e ↦ even_black at e ∙ sym (ap other (turned_even White places (omega arith)))
  | inr ne ↦ odd_white at ne ∙ sym (ap other (turned_odd White places (λ e. omega arith)))
]

module _ (held list : List ℕ) (width : ℕ) (front : Front) (fits : FitsLists held list width front) (short : front.from ≤ width) (at : ℕ)
    (found : IsFoundAt held front.from at) (same : at % 2 ≡ front.at % 2) where
  abbrev pub places : List ℕ
  places = take front.turns list

  abbrev pub line : CodingLine
  line = line_of list front

  long : length places ≡ front.turns
  long = length-take-le front.turns list fits.turns

  pub room : front.turns < length list
  room = omega (arith, few_left places front.from fits.line, long, fits.room, fits.low, short)

  here : length line.pixels ≡ front.from - 1
  here = length_line places front.from fits.line

  -- the reference line is as wide
  wide : (reference : List Color) → AreHeld reference held → length reference ≡ width
  wide reference is = sym ((ends_held reference held is).ends (length held - 1) (omega arith) (omega (arith, fits.ended.some))) ∙
      fits.ended.ends (length held - 1) (omega arith) (omega (arith, fits.ended.some))

  less : (reference : List Color) → AreHeld reference held → length line.pixels < length reference
  less reference is = omega (arith, here, wide reference is, fits.wide.0, short)

  abbrev pub b1 : ℕ
  b1 = slice_index_or held at 0

  is_first : (reference : List Color) → AreHeld reference held → IsFirstTo reference (other (a0_of line).color) (right_of (a0_of line)) b1
  is_first reference is =
      let even : (at + length places) % 2 ≡ 0 = omega (arith, same, fits.even, long) in
      subst (λ (c : Color). IsFirstTo reference c (right_of (a0_of line)) b1) (color_sought at places even)
      (subst (λ (n : ℕ). IsFirstTo reference (turned_at at) n b1) (sym (right_line places front.from fits.line))
      (found_first reference held front.from at is found).0)

  -- b1 is in the line or at its end
  pub b1_most : b1 ≤ width
  b1_most = omega (
    arith,
    fits.ended.rising at (length held - 1) (omega (arith, found.within)) (omega (arith, fits.ended.some)),
    fits.ended.ends (length held - 1) (omega arith) (omega (arith, fits.ended.some)),
  )

  -- a vertical mode
  pub vertical_front : (shift : Shift) (a1 : ℕ) → a1 + to_left shift ≡ b1 + to_right shift → front.from ≤ a1 → a1 ≤ width
      → Leads held line (line_before (take (front.turns + 1) (slice_set list front.turns a1)) (a1 + 1)) (Vertical shift)
  vertical_front shift a1 is_a1 right within reference is =
      let finds = vertical_leads reference line (less reference is) (a0_of line) refl b1 (is_first reference is) shift a1 (omega (
        arith,
        is_a1,
      ))
      (omega (arith, right_line places front.from fits.line, is_a1, right)) (omega (arith, wide reference is, within)) in
      finds.2 _ (rw (take_more_set list front.turns a1 room)
      (line_turned places front.from a1 fits.line (omega arith) ∙
      ap (λ (n : ℕ). record {
        pixels = line.pixels ++ replicate (a1 - n) line.color;
        begun = true;
        color = other line.color;
      }) (sym here)))

  -- why a vertical mode is refused
  pub vertical_refused : (shift : Shift) (kind : CodeFaultKind) → RefusesA1 b1 shift front.from width kind → Refuses held line
      (Vertical shift) kind
  vertical_refused shift kind (inl back) reference is page same_reference =
      rw back.1 (backwards_leads reference line (less reference is) (a0_of line) refl b1 (is_first reference is) shift
      (omega (arith, right_line places front.from fits.line, back.0)) page same_reference)
  vertical_refused shift kind (inr past) reference is page same_reference =
      rw past.2 (past_leads reference line (less reference is) (a0_of line) refl b1 (is_first reference is) shift
      (omega (arith, right_line places front.from fits.line, past.0)) (omega (arith, wide reference is, past.1)) page same_reference)

  -- the front after a vertical mode
  pub vertical_fits : (a1 after : ℕ) → front.from ≤ a1 → a1 ≤ width → after < length held → IsSoughtFrom held (a1 + 1) after
      → (after + at) % 2 ≡ 1
      → FitsLists held (slice_set list front.turns a1) width (record { from = a1 + 1; at = after; turns = front.turns + 1 })
  vertical_fits a1 after right within index sought odd =
      let count : length (slice_set list front.turns a1) ≡ length list = length-set list front.turns a1 in
      record {
        wide = fits.wide;
        ended = fits.ended;
        apart = fits.apart;
        turns = omega (arith, count, room);
        line = rw (take_more_set list front.turns a1 room) (left_turned places front.from a1 fits.line right);
        room = omega (arith, count, fits.room);
        low = omega arith;
        index = index;
        sought = sought;
        even = omega (arith, same, fits.even, odd);
      }

  abbrev pub b2 : ℕ
  b2 = slice_index_or held (at + 1) 0

  pub b2_most : b2 ≤ width
  b2_most = omega (
    arith,
    fits.ended.rising (at + 1) (length held - 1) (omega (arith, found.within)) (omega (arith, fits.ended.some)),
    fits.ended.ends (length held - 1) (omega arith) (omega (arith, fits.ended.some)),
  )

  -- pass mode
  pub pass_front : Leads held line (line_before places (b2 + 1)) Pass
  pass_front reference is =
      let two = (found_first reference held front.from at is found).1 in
      let first = is_first reference is in
      let up : front.from ≤ b2 = omega (arith, found.reached, fits.ended.rising at (at + 1) (omega arith) found.within) in
      let mid : CodingLine = record {
        pixels = line.pixels ++ replicate (b2 - length line.pixels) line.color;
        begun = true;
        color = other line.color;
      } in
      pass_leads reference line (less reference is) (a0_of line) refl b1 first b2 (length line.pixels) mid
      (line_before places (b2 + 1)) two refl refl
      (line_on places front.from b2 fits.line (omega arith) ∙
      (ap (λ (n : ℕ). record {
        pixels = line.pixels ++ replicate (b2 - n) line.color;
        begun = true;
        color = line.color;
      }) (sym here) ∙ again mid.pixels))
    where
      twice : (c : Color) → c ≡ other (other c)
      twice White = refl
      twice Black = refl

      again : (pixels : List Color) → begun_line pixels line.color ≡ begun_line (pixels ++ replicate 0 (other line.color)) (other
          (other line.color))
      again pixels = rw append-nil (ap (begun_line pixels) (twice line.color))

  -- the front after pass mode
  pub pass_fits : FitsLists held list width (record { from = b2 + 1; at = at; turns = front.turns })
  pass_fits =
      let up : b1 ≤ b2 = fits.ended.rising at (at + 1) (omega arith) found.within in
      let most = b2_most in
      record {
        wide = fits.wide;
        ended = fits.ended;
        apart = fits.apart;
        turns = fits.turns;
        line = left_later places front.from (b2 + 1) fits.line (omega (arith, up, found.reached));
        room = fits.room;
        low = omega (arith, most);
        index = omega (arith, found.within);
        sought = λ some. omega (arith, found.left some, up, found.reached);
        even = omega (arith, same, fits.even);
      }
