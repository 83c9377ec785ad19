-- What the modes that are written do to a front.
use Rattle.std.proofs.Common.{ℕ, zero, suc, ◌≡◌, ◌+◌, ◌-◌, ◌/◌, ◌%◌, ◌^◌, ◌<◌, ◌≤◌, ◌++◌, ◌∷◌, [], inl, inr, List, length, replicate}
use Rattle.std.proofs.Common.{append_assoc, true, Bool, Some, None, arith, refl, sym, ap, subst, ◌∙◌, map, nat_eq}
use Rattle.std.specs.Prelude.{slice_index_or, Result, Ok, Err, OnErr}
use Rattle.std.specs.Int.{bit_at}
use Rattle.std.specs.List.{range_with_len}
use Rattle.std.proofs.lemmas.Bool.{cases_eq, cases_lt, lt-ltb, le-ltb}
use Rattle.std.proofs.lemmas.List.{length-take-le, get_or_default, get_or_past, length-replicate}
use Rattle.std.proofs.lemmas.Nat.Bits.{bit_at_ones, ones_shr}
use Rattle.raster.specs.declared.row.Color.{Color}
use Rattle.raster.specs.declared.row.Color.TheVariants.{White, Black}
use Rattle.raster.specs.declared.packed.Order.TheVariants.{MsbFirst}
use Rattle.raster.specs.Changes.{IsNextChange}
use Rattle.raster.specs.Changes.{turned as turned_after}
use Rattle.raster.specs.Packed.{Bits}
use Rattle.raster.specs.Pixels.{other}
use Rattle.raster.specs.Words.{number_bits}
use Rattle.run_tables.specs.Codes.{run_words}
use Rattle.run_tables.specs.Written.{Appends, KeepsBits}
use Rattle.page_code.specs.declared.t6.a0.A0.{A0}
use Rattle.page_code.specs.declared.t6.front.Front.{Front}
use Rattle.page_code.specs.declared.t6.mode.Shift.{Shift}
use Rattle.page_code.specs.declared.t6.mode.Shift.TheVariants.{V0}
use Rattle.page_code.specs.TwoDimensions.Changes.{AreHeld, IsFirstHeld, turned}
use Rattle.page_code.specs.TwoDimensions.Code.{line_code, prescribed, row_code, vertical_to, verticals}
use Rattle.page_code.specs.TwoDimensions.Coding.{CodesOn, FitsCoding, IsListed, LeadsTo, WritesOn, WritesTo, coded_to, rest_code}
use Rattle.page_code.specs.TwoDimensions.Lines.{IsFoundAt}
use Rattle.page_code.specs.TwoDimensions.Modes.{horizontal_word, mode_words, pass_word, vertical_word}
use Rattle.page_code.specs.TwoDimensions.Positions.{IsFirstTo, right_of}
use Rattle.page_code.specs.TwoDimensions.Writing.{IsCodedTo, WritesMode, line_to}
use Rattle.page_code.proofs.TwoDimensions.ChangeLists.{at_held, turned_even, turned_odd, two_held}
use Rattle.page_code.proofs.TwoDimensions.Lines.{ends_held, found_first}
use Rattle.page_code.proofs.TwoDimensions.Lines.{turned_even as after_even, turned_odd as after_odd}
use Rattle.page_code.proofs.TwoDimensions.WritesMode.{appends_on, line_code_on, moved_stands, row_end, straight, wrote_horizontal}
use Rattle.page_code.proofs.TwoDimensions.WritesMode.{wrote_pass, wrote_vertical}

-- ---- a number of 1 bits

all_true : (f : ℕ → Bool) (a n : ℕ) → ((i : ℕ) → a ≤ i → i < a + n → f i ≡ true) → map f (range_with_len a n) ≡ replicate n true
all_true f a zero is = refl
all_true f a (suc n) is =
    ap (λ b. b ∷ map f (range_with_len (a + 1) n)) (is a (omega arith) (omega arith)) ∙
    ap (λ l. true ∷ l) (all_true f (a + 1) n (λ i low h. is i (omega arith) (omega arith)))

-- the last bits of a word of 1 bits
pub ones_are : (count : ℕ) → 0 < count → count ≤ 32 → number_bits count ((2 ^ 32 - 1) / 2 ^ (32 - count)) ≡ replicate count true
ones_are count some few =
    let left : 32 - (32 - count) ≡ count = omega arith in
    let value : (2 ^ 32 - 1) / 2 ^ (32 - count) ≡ 2 ^ count - 1 = ones_shr 32 (32 - count) (omega arith) ∙ ap (λ n. 2 ^ n - 1) left in
    ap (number_bits count) value ∙
    all_true (λ place. nat_eq (bit_at (2 ^ count - 1) (count - 1 - place)) 1) 0 count
    (λ i low h. ap (λ b. nat_eq b 1) (bit_at_ones count (count - 1 - i) (omega arith)))

-- ---- lists

-- the list of a row's changing elements
pub listed_held : (row : List Color) (held : List ℕ) → AreHeld row held → IsListed held (length row)
listed_held row held is = record {
  ended = ends_held row held is;
  strict = λ i h less. elim (cases_lt i (length is.places)) [
    | inr past ↦ absurd (omega (arith, less, at_held row held is i 0 (omega arith), get_or_past is.places i (length row) past))
    | inl l ↦
        elim (cases_lt (i + 1) (length is.places)) [
          | inl both ↦ omega (
            arith,
            is.changes.rising i (i + 1) (omega arith) both,
            at_held row held is i 0 (omega arith),
            at_held row held is (i + 1) 0 h,
            get_or_default is.places i (length row) 0 l,
            get_or_default is.places (i + 1) (length row) 0 both,
          )
          | inr last ↦ omega (
            arith,
            less,
            at_held row held is (i + 1) 0 h,
            get_or_past is.places (i + 1) (length row) last,
          )
        ]
  ];
}

twice : (c : Color) → other (other c) ≡ c
twice White = refl
twice Black = refl

-- the color after a number of turns
pub color_after : (color : Color) (turns : ℕ) → ((places : List ℕ) → length places ≡ turns → color ≡ turned_after White places)
    → color ≡ other (turned turns)
color_after color turns is =
    let zeros : List ℕ = replicate turns 0 in
    let count : length zeros ≡ turns = length-replicate turns 0 in
    is zeros count ∙
    elim (cases_eq (turns % 2) 0) [
      | inl e ↦ after_even White zeros (omega arith) ∙ sym (ap other (turned_even turns e))
      | inr ne ↦ after_odd White zeros (λ e. ne (omega arith)) ∙ sym (ap other (turned_odd turns ne))
    ]

same_turned : (at turns : ℕ) → (at + turns) % 2 ≡ 0 → turned at ≡ turned turns
same_turned at turns even = elim (cases_eq (at % 2) 0) [
  | inl e ↦ turned_even at e ∙ sym (turned_even turns (omega arith))
  | inr ne ↦ turned_odd at ne ∙ sym (turned_odd turns (λ e. ne (omega arith)))
]

next_turned : (turns : ℕ) → turned (turns + 1) ≡ other (turned turns)
next_turned turns = let e : turns + 1 ≡ suc turns = omega arith in ap turned e

right_coded : (front : Front) → right_of (coded_to front) ≡ front.from
right_coded front = elim (cases_lt 0 front.from) [
  | inl some ↦ rw (lt-ltb 0 front.from some) (omega arith)
  | inr none ↦ rw (le-ltb 0 front.from none) (omega arith)
]

-- a0 on a place
on_place : (place at turns : ℕ) (color : Color) → color ≡ other (turned turns)
    → coded_to (record { from = place + 1; at = at; turns = turns }) ≡ record { place = place; begun = true; color = color }
on_place place at turns color is =
    let here : place + 1 - 1 ≡ place = omega arith in
    rw (here, lt-ltb 0 (place + 1) (omega arith), is) refl

-- ---- one mode

mode_on : (reference row : List Color) (old new : Front) (to : A0) (before after : Bits) (word : List Bool) → length reference ≡ length row
    → IsCodedTo row (coded_to old) → (coded_to old).place < length row → WritesMode reference row (coded_to old) to before after
    → coded_to new ≡ to → mode_words (coded_to old).color (prescribed reference row (line_to row (coded_to old))) ≡ word
    → LeadsTo reference row old new word
mode_on reference row old new to before after word even coded short wrote is spells =
    let line = line_to row (coded_to old) in
    let inside : length line.pixels < length row = omega (arith, length-take-le (coded_to old).place row coded.within) in
    let on = moved_stands reference row line (line_to row to) even coded.stands inside wrote.moves in
    let next : IsCodedTo row to = record { within = wrote.within; stands = on.0 } in
    record {
      coded = subst (IsCodedTo row) (sym is) next;
      code = line_code_on reference row line (line_to row to) even coded.stands inside wrote.moves ∙
          (ap (λ w. w ++ line_code (length row + 1) reference row (line_to row to)) spells ∙
          ap (λ (a : A0). word ++ line_code (length row + 1) reference row (line_to row a)) (sym is));
    }

-- bits of none
abbrev none_yet : Bits
none_yet = record { order = MsbFirst; bits = [] }

abbrev only : List Bool → Bits
only word = record { order = MsbFirst; bits = word }

module _ (above places : List ℕ) (width : ℕ) (front : Front) (fits : FitsCoding above places width front) (short : front.from ≤ width)
    (at : ℕ) (found : IsFoundAt above front.from at) (same : at % 2 ≡ front.at % 2) where
  abbrev pub a1 : ℕ
  a1 = slice_index_or places front.turns 0

  abbrev pub a2 : ℕ
  a2 = slice_index_or places (front.turns + 1) 0

  abbrev pub b1 : ℕ
  b1 = slice_index_or above at 0

  abbrev pub b2 : ℕ
  b2 = slice_index_or above (at + 1) 0

  first : IsFirstHeld places front.from front.turns
  first = fits.here short

  most_of : (held : List ℕ) → IsListed held width → (i : ℕ) → i < length held → slice_index_or held i 0 ≤ width
  most_of held listed i h = omega (
    arith,
    listed.ended.rising i (length held - 1) (omega arith) (omega (arith, listed.ended.some)),
    listed.ended.ends (length held - 1) (omega arith) (omega (arith, listed.ended.some)),
  )

  -- an element to the left of the width is not among the last three
  inner_of : (held : List ℕ) → IsListed held width → (i : ℕ) → i < length held → slice_index_or held i 0 < width → i + 3 < length held
  inner_of held listed i h less = elim (cases_lt (i + 3) (length held)) [
    | inl l ↦ l
    | inr g ↦ absurd (omega (arith, less, listed.ended.ends i g h))
  ]

  pub a1_most : a1 ≤ width
  a1_most = most_of places fits.listed front.turns (omega (arith, first.within))

  pub a2_most : a2 ≤ width
  a2_most = most_of places fits.listed (front.turns + 1) (omega (arith, first.within))

  pub b1_most : b1 ≤ width
  b1_most = most_of above fits.ended at (omega (arith, found.within))

  pub b2_most : b2 ≤ width
  b2_most = most_of above fits.ended (at + 1) found.within

  pub a1_low : front.from ≤ a1
  a1_low = first.reached

  pub a2_low : a1 ≤ a2
  a2_low = fits.listed.ended.rising front.turns (front.turns + 1) (omega arith) (omega (arith, first.within))

  pub b2_low : front.from ≤ b2
  b2_low = omega (arith, found.reached, fits.ended.ended.rising at (at + 1) (omega arith) found.within)

  even_at : (at + front.turns) % 2 ≡ 0
  even_at = omega (arith, same, fits.even)

  module _ (reference row : List Color) (is_above : AreHeld reference above) (is_row : AreHeld row places) where
    next_row : IsNextChange row front.from a1 × IsNextChange row (a1 + 1) a2
    next_row = two_held row places front.from front.turns a1 a2 is_row first refl refl

    b1_b2 : IsFirstTo reference (other (coded_to front).color) (right_of (coded_to front)) b1 × IsNextChange reference (b1 + 1) b2
    b1_b2 =
        let two = found_first reference above front.from at is_above found in (
          subst (λ (c : Color). IsFirstTo reference c (right_of (coded_to front)) b1)
              (same_turned at front.turns even_at ∙ sym (twice (turned front.turns)))
              (subst (λ (n : ℕ). IsFirstTo reference (turned at) n b1) (sym (right_coded front)) two.0),
          two.1,
        )

    wide_row : length row ≡ width
    wide_row = sym ((ends_held row places is_row).ends (length places - 1) (omega arith) (omega (arith, fits.listed.ended.some))) ∙
        fits.listed.ended.ends (length places - 1) (omega arith) (omega (arith, fits.listed.ended.some))

    less : (coded_to front).place < length row
    less = omega (arith, wide_row, fits.wide.0, short)

  -- ---- pass mode

  pub pass_fits : b2 < a1 → FitsCoding above places width (record { from = b2 + 1; at = at; turns = front.turns })
  pass_fits left =
      let up = b2_low in
      let most = b2_most in
      record {
        wide = fits.wide;
        ended = fits.ended;
        listed = fits.listed;
        low = omega (arith, most);
        index = omega (arith, found.within);
        sought = λ some. omega (arith, found.left some, up);
        even = even_at;
        here = λ h. record {
          within = first.within;
          left = λ some. omega (arith, first.left some, up);
          reached = omega (arith, left);
        };
      }

  pub pass_codes : b2 < a1 → CodesOn above places front (record { from = b2 + 1; at = at; turns = front.turns }) pass_word
  pass_codes left reference row is_above is_row even coded =
      let a = next_row reference row is_above is_row in
      let b = b1_b2 reference row is_above is_row in
      let wrote = wrote_pass reference row even (coded_to front) coded front.from a1 b1 b2 (sym (right_coded front)) a.0 b.0 b.1 pass_word
      none_yet (only pass_word) refl refl left in
      mode_on reference row front (record { from = b2 + 1; at = at; turns = front.turns })
      (record { place = b2; begun = true; color = (coded_to front).color }) none_yet (only pass_word) pass_word even coded
      (less reference row is_above is_row) wrote (on_place b2 at front.turns (coded_to front).color refl)
      (sym (ap (λ (x : Bits). x.bits) wrote.writes))

  -- ---- vertical modes

  pub vertical_fits : (after : ℕ) → after < length above → (2 ≤ after → slice_index_or above (after - 2) 0 < a1 + 1)
      → (after + at) % 2 ≡ 1 → FitsCoding above places width (record { from = a1 + 1; at = after; turns = front.turns + 1 })
  vertical_fits after index sought odd =
      let most = a1_most in
      record {
        wide = fits.wide;
        ended = fits.ended;
        listed = fits.listed;
        low = omega (arith, most);
        index = index;
        sought = sought;
        even = omega (arith, even_at, odd);
        here = λ h.
            let inner = inner_of places fits.listed front.turns (omega (arith, first.within)) (omega arith) in
            let back : front.turns + 1 - 1 ≡ front.turns = omega arith in
            record {
              within = omega (arith, inner);
              left = λ some. subst (λ (i : ℕ). slice_index_or places i 0 < a1 + 1) (sym back) (omega arith);
              reached = omega (arith, fits.listed.strict front.turns (omega (arith, inner)) (omega arith));
            };
      }

  pub vertical_codes : (shift : Shift) (after : ℕ) → a1 ≤ b2 → vertical_to b1 a1 verticals ≡ Some shift
      → CodesOn above places front (record { from = a1 + 1; at = after; turns = front.turns + 1 }) (vertical_word shift)
  vertical_codes shift after right leads reference row is_above is_row even coded =
      let a = next_row reference row is_above is_row in
      let b = b1_b2 reference row is_above is_row in
      let color : Color = other (coded_to front).color in
      let wrote = wrote_vertical reference row even (coded_to front) coded front.from a1 b1 b2 (sym (right_coded front)) a.0 b.0 b.1 shift
      (vertical_word shift) color none_yet (only (vertical_word shift)) refl refl refl right leads in
      mode_on reference row front (record { from = a1 + 1; at = after; turns = front.turns + 1 })
      (record { place = a1; begun = true; color = color }) none_yet (only (vertical_word shift)) (vertical_word shift) even coded
      (less reference row is_above is_row) wrote
      (on_place a1 after (front.turns + 1) color (ap other (sym (next_turned front.turns))))
      (sym (ap (λ (x : Bits). x.bits) wrote.writes))

  -- ---- horizontal mode

  pub horizontal_fits : FitsCoding above places width (record { from = a2 + 1; at = at; turns = front.turns + 2 })
  horizontal_fits =
      let most = a2_most in
      let low = a1_low in
      let up = a2_low in
      record {
        wide = fits.wide;
        ended = fits.ended;
        listed = fits.listed;
        low = omega (arith, most);
        index = omega (arith, found.within);
        sought = λ some. omega (arith, found.left some, low, up);
        even = omega (arith, even_at);
        here = λ h.
            let inner = inner_of places fits.listed (front.turns + 1) (omega (arith, first.within)) (omega arith) in
            let back : front.turns + 2 - 1 ≡ front.turns + 1 = omega arith in
            let next : front.turns + 1 + 1 ≡ front.turns + 2 = omega arith in
            record {
              within = omega (arith, inner);
              left = λ some. subst (λ (i : ℕ). slice_index_or places i 0 < a2 + 1) (sym back) (omega arith);
              reached = subst (λ (i : ℕ). a2 + 1 ≤ slice_index_or places i 0) next
                  (omega (arith, fits.listed.strict (front.turns + 1) (omega (arith, inner)) (omega arith)));
            };
      }

  abbrev pub runs_word : List Bool
  runs_word = horizontal_word ++ (run_words (coded_to front).color (a1 - (front.from - 1)) ++ run_words (other (coded_to front).color) (a2
      - a1))

  pub horizontal_codes : a1 ≤ b2 → vertical_to b1 a1 verticals ≡ None
      → CodesOn above places front (record { from = a2 + 1; at = at; turns = front.turns + 2 }) runs_word
  horizontal_codes right none reference row is_above is_row even coded =
      let a = next_row reference row is_above is_row in
      let b = b1_b2 reference row is_above is_row in
      let color : Color = (coded_to front).color in
      let one : List Bool = run_words color (a1 - (front.from - 1)) in
      let two : List Bool = run_words (other color) (a2 - a1) in
      let wrote = wrote_horizontal reference row even (coded_to front) coded front.from a1 b1 b2 (sym (right_coded front)) a.0 b.0 b.1 a2
      horizontal_word (other color) none_yet (only horizontal_word) (only (horizontal_word ++ one))
      (only (horizontal_word ++ one ++ two)) a.1 refl refl refl refl refl right none in
      let again : turned (front.turns + 2) ≡ turned front.turns = next_twice front.turns in
      mode_on reference row front (record { from = a2 + 1; at = at; turns = front.turns + 2 })
      (record { place = a2; begun = true; color = color }) none_yet (only (horizontal_word ++ one ++ two)) runs_word even coded
      (less reference row is_above is_row) wrote (on_place a2 at (front.turns + 2) color (ap other (sym again)))
      (sym (ap (λ (x : Bits). x.bits) wrote.writes) ∙ append_assoc horizontal_word one two)
    where
      next_twice : (turns : ℕ) → turned (turns + 2) ≡ turned turns
      next_twice turns = let e : turns + 2 ≡ suc (suc turns) = omega arith in ap turned e ∙ twice (turned turns)

  -- the same by a color and a place
  pub horizontal_written : (color : Color) (back : ℕ) → color ≡ other (turned front.turns) → back ≡ front.from - 1 → a1 ≤ b2
      → vertical_to b1 a1 verticals ≡ None
      → CodesOn above places front (record { from = a2 + 1; at = at; turns = front.turns + 2 }) (horizontal_word ++ (run_words color (a1 -
      back) ++ run_words (other color) (a2 - a1)))
  horizontal_written color back is_color is_back right none = rw (is_color, is_back) (horizontal_codes right none)

-- ---- V0 several times

codes_join : (above places : List ℕ) (a b c : Front) (u v : List Bool) → CodesOn above places a b u → CodesOn above places b c v
    → CodesOn above places a c (u ++ v)
codes_join above places a b c u v f g reference row is_above is_row even coded =
    let one = f reference row is_above is_row even coded in
    let two = g reference row is_above is_row even one.coded in
    record {
      coded = two.coded;
      code = one.code ∙ (ap (λ l. u ++ l) two.code ∙ sym (append_assoc u v (rest_code reference row c)));
    }

module _ (above places : List ℕ) (width : ℕ) (front : Front) (fits : FitsCoding above places width front) (short : front.from ≤ width)
    (at : ℕ) (found : IsFoundAt above front.from at) (same : at % 2 ≡ front.at % 2)
    (agrees : slice_index_or above at 0 ≡ slice_index_or places front.turns 0) where
  abbrev there : ℕ
  there = slice_index_or places front.turns 0

  abbrev mid : Front
  mid = record { from = there + 1; at = at + 1; turns = front.turns + 1 }

  sought_mid : 2 ≤ at + 1 → slice_index_or above (at + 1 - 2) 0 < there + 1
  sought_mid some =
      let back : at - 1 ≡ at + 1 - 2 = omega arith in
      subst (λ (i : ℕ). slice_index_or above i 0 < there + 1) back
      (omega (arith, agrees, fits.ended.ended.rising (at - 1) at (omega arith) (omega (arith, found.within))))

  mid_fits : FitsCoding above places width mid
  mid_fits = vertical_fits above places width front fits short at found same (at + 1) found.within sought_mid (omega arith)

  mid_codes : CodesOn above places front mid (vertical_word V0)
  mid_codes =
      vertical_codes above places width front fits short at found same V0 (at + 1)
      (omega (arith, agrees, fits.ended.ended.rising at (at + 1) (omega arith) found.within))
      (straight (slice_index_or above at 0) there (sym agrees))

  mid_found : there < width → slice_index_or above (at + 1) 0 ≡ slice_index_or places (front.turns + 1) 0 → IsFoundAt above (there + 1)
      (at + 1)
  mid_found less next = record {
    within = omega (
      arith,
      inner_of above places width front fits short at found same above fits.ended at (omega (arith, found.within)) (omega (arith, agrees)),
    );
    left = sought_mid;
    reached = omega (arith, next, (mid_fits.here (omega arith)).reached);
  }

pub straight_run : (above places : List ℕ) (width n : ℕ) (front : Front) → FitsCoding above places width front → front.from ≤ width
    → (at : ℕ) → IsFoundAt above front.from at → at % 2 ≡ front.at % 2
    → ((k : ℕ) → k < n + 1 → slice_index_or above (at + k) 0 ≡ slice_index_or places (front.turns + k) 0)
    → ((k : ℕ) → k < n → slice_index_or places (front.turns + k) 0 < width)
    → (last after turns : ℕ) → last ≡ slice_index_or places (front.turns + n) 0 → after ≡ at + n + 1 → turns ≡ front.turns + n + 1
    → FitsCoding above places width (record { from = last + 1; at = after; turns = turns }) × (front.from ≤ last) × (last ≤ width)
    × CodesOn above places front (record { from = last + 1; at = after; turns = turns }) (replicate (n + 1) true)
straight_run above places width zero front fits short at found same agrees inside last after turns is_last is_after is_turns =
    let none : front.turns + 0 ≡ front.turns = omega arith in
    let at_none : at + 0 ≡ at = omega arith in
    let one : slice_index_or above at 0 ≡ slice_index_or places front.turns 0 =
    ap (λ (i : ℕ). slice_index_or above i 0) (sym at_none) ∙ (agrees 0 (omega arith) ∙ ap (λ (i : ℕ). slice_index_or places i 0) none) in
    let here : slice_index_or places front.turns 0 ≡ last = ap (λ (i : ℕ). slice_index_or places i 0) (sym none) ∙ sym is_last in
    let a : at + 1 ≡ after = omega arith in
    let t : front.turns + 1 ≡ turns = omega arith in
    let fitting = mid_fits above places width front fits short at found same one in
    let coding = mid_codes above places width front fits short at found same one in
    let reached = (fits.here short).reached in
    let most = a1_most above places width front fits short at found same in
    rw (← here, ← a, ← t) (fitting, reached, most, coding)
straight_run above places width (suc n) front fits short at found same agrees inside last after turns is_last is_after is_turns =
    let none : front.turns + 0 ≡ front.turns = omega arith in
    let at_none : at + 0 ≡ at = omega arith in
    let one : slice_index_or above at 0 ≡ slice_index_or places front.turns 0 =
    ap (λ (i : ℕ). slice_index_or above i 0) (sym at_none) ∙ (agrees 0 (omega arith) ∙ ap (λ (i : ℕ). slice_index_or places i 0) none) in
    let less : slice_index_or places front.turns 0 < width = subst (λ (i : ℕ). slice_index_or places i 0 < width) none (inside 0 (omega
    arith)) in
    let on : Front = record { from = slice_index_or places front.turns 0 + 1; at = at + 1; turns = front.turns + 1 } in
    let end : Front = record { from = last + 1; at = after; turns = turns } in
    let count : suc (n + 1) ≡ suc n + 1 = omega arith in
    let index : front.turns + suc n ≡ front.turns + 1 + n = omega arith in
    let later = straight_run above places width n on (mid_fits above places width front fits short at found same one) (omega arith) (at + 1)
    (mid_found above places width front fits short at found same one less (agrees 1 (omega arith))) refl
    (λ k h.
    let i : at + (k + 1) ≡ at + 1 + k = omega arith in
    let j : front.turns + (k + 1) ≡ front.turns + 1 + k = omega arith in
    ap (λ (i : ℕ). slice_index_or above i 0) (sym i) ∙ (agrees (k + 1) (omega arith) ∙ ap (λ (i : ℕ). slice_index_or places i 0) j))
    (λ k h.
    let j : front.turns + (k + 1) ≡ front.turns + 1 + k = omega arith in
    subst (λ (i : ℕ). slice_index_or places i 0 < width) j (inside (k + 1) (omega arith)))
    last after turns (is_last ∙ ap (λ (i : ℕ). slice_index_or places i 0) index) (omega arith) (omega arith) in (
      later.0,
      omega (arith, (fits.here short).reached, later.1),
      later.2,
      subst (λ (m : ℕ). CodesOn above places front end (replicate m true)) count (codes_join above places front on end (vertical_word V0)
          (replicate (n + 1) true) (mid_codes above places width front fits short at found same one) later.3),
    )

-- the same by how many there are
pub straight_places : (above places : List ℕ) (width count : ℕ) (front : Front) → FitsCoding above places width front → front.from ≤ width
    → (at : ℕ) → IsFoundAt above front.from at → at % 2 ≡ front.at % 2 → 0 < count
    → ((k : ℕ) → k < count → slice_index_or above (at + k) 0 ≡ slice_index_or places (front.turns + k) 0)
    → ((k : ℕ) → k + 1 < count → slice_index_or places (front.turns + k) 0 < width)
    → FitsCoding above places width (record {
      from = slice_index_or places (front.turns + count - 1) 0 + 1;
      at = at + count;
      turns = front.turns + count;
    }) × (front.from ≤ slice_index_or places (front.turns + count - 1) 0) × (slice_index_or places (front.turns + count - 1) 0 ≤ width)
    × CodesOn above places front (record {
      from = slice_index_or places (front.turns + count - 1) 0 + 1;
      at = at + count;
      turns = front.turns + count;
    }) (replicate count true)
straight_places above places width count front fits short at found same some agrees inside =
    let last : ℕ = slice_index_or places (front.turns + count - 1) 0 in
    let index : front.turns + count - 1 ≡ front.turns + (count - 1) = omega arith in
    let back : count - 1 + 1 ≡ count = omega arith in
    let all = straight_run above places width (count - 1) front fits short at found same (λ k h. agrees k (omega arith))
    (λ k h. inside k (omega arith)) last (at + count) (front.turns + count) (ap (λ (i : ℕ). slice_index_or places i 0) index) (omega arith)
    (omega arith) in (
      all.0,
      all.1,
      all.2,
      subst (λ (m : ℕ). CodesOn above places front (record { from = last + 1; at = at + count; turns = front.turns + count })
          (replicate m true)) back all.3,
    )

-- ---- a whole row

width_of : (row : List Color) (held : List ℕ) (width : ℕ) → AreHeld row held → IsListed held width → length row ≡ width
width_of row held width is listed =
    sym ((ends_held row held is).ends (length held - 1) (omega arith) (omega (arith, listed.ended.some))) ∙
    listed.ended.ends (length held - 1) (omega arith) (omega (arith, listed.ended.some))

pub keeps_more : (above places : List ℕ) (old new : Front) (start before after : Bits) → KeepsBits start before
    → WritesOn above places old new before after → KeepsBits start after
keeps_more above places old new start before after keeps on =
    (keeps.0 ++ on.0, appends_on keeps.0 on.0 start before after keeps.1 on.1)

pub writes_more : (above places : List ℕ) (old new : Front) (start before after : Bits) → WritesTo above places old start before
    → WritesOn above places old new before after → WritesTo above places new start after
writes_more above places old new start before after so on reference row is_above is_row even =
    let far = so reference row is_above is_row even in
    let leads = on.2 reference row is_above is_row even far.0 in (
      leads.coded,
      (
        far.1.0 ++ on.0,
        appends_on far.1.0 on.0 start before after far.1.1 on.1,
        append_assoc far.1.0 on.0 (rest_code reference row new) ∙ (ap (λ l. far.1.0 ++ l) (sym leads.code) ∙ far.1.2),
      ),
    )

pub row_done : (above places : List ℕ) (width : ℕ) (front : Front) (start now : Bits) → FitsCoding above places width front
    → width < front.from → WritesTo above places front start now → (reference row : List Color) → AreHeld reference above
    → AreHeld row places → length reference ≡ length row → Appends (row_code reference row) start now
row_done above places width front start now fits whole so reference row is_above is_row even =
    let far = so reference row is_above is_row even in
    row_end reference row (coded_to front) now start far.1.0 far.0
    (omega (arith, width_of row places width is_row fits.listed, whole)) far.1.1 far.1.2

pub on_err : {T E : Type 0} (r : Result T E) (P : Type 0) → P → OnErr r P
on_err (Ok x) P h = tt
on_err (Err y) P h = h
