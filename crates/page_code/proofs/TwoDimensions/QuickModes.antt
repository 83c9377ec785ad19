-- Modes that are read one after the other from the next bits.
use Rattle.std.proofs.Common.{ℕ, ◌≡◌, ◌+◌, ◌-◌, ◌*◌, ◌/◌, ◌%◌, ◌^◌, ◌<◌, ◌≤◌, ◌∷◌, [], Bool, false, true, List, length, drop, take}
use Rattle.std.proofs.lemmas.List.{drop-drop}
use Rattle.std.proofs.Common.{arith, cond, inl, inr, nat_eq, refl, subst, sym, ap, ◌∙◌, length-drop}
use Rattle.std.proofs.lemmas.Bool.{cases_eq, eq-eqb, ne_eqb}
use Rattle.std.specs.Prelude.{Err, Ok}
use Rattle.raster.specs.declared.row.Color.{Color}
use Rattle.run_tables.specs.declared.fault.CodeFault.{CodeFault}
use Rattle.run_tables.specs.Numbers.{AreFirst, first_bits, number_text}
use Rattle.run_tables.specs.Reading.{Reading, rest_of}
use Rattle.run_tables.specs.Texts.{begins}
use Rattle.run_tables.proofs.NumberLemmas.{begins_unfilled, front_first, front_moved}
use Rattle.page_code.specs.declared.t6.front.Front.{Front}
use Rattle.page_code.specs.declared.t6.mode.ModeCode.TheVariants.{Horizontal, Vertical}
use Rattle.page_code.specs.declared.t6.mode.Shift.TheVariants.{V0, VL1, VR1}
use Rattle.page_code.specs.TwoDimensions.Changes.{AreHeld}
use Rattle.page_code.specs.TwoDimensions.Fronts.{PageSoFar, PageState, mode_ended, mode_word}
use Rattle.page_code.specs.TwoDimensions.Fronts.PageState.{inside}
use Rattle.page_code.specs.TwoDimensions.Lines.{FitsLists, StepsBy, beside, line_of}
use Rattle.page_code.specs.TwoDimensions.Positions.{CodingLine, line_begin}
use Rattle.page_code.specs.TwoDimensions.Reading.{GoesTo, ReadsRow, StepsAlong, StepsOn, row_reading}
use Rattle.page_code.proofs.TwoDimensions.Lines.{ends_held, length_line}
use Rattle.page_code.proofs.TwoDimensions.ModeTable.{mode_some}
use Rattle.page_code.proofs.TwoDimensions.Reading.{mode_ended_short}
use Rattle.page_code.proofs.TwoDimensions.RowReading.{goes_none, goes_reads, goes_twice}
use Rattle.page_code.proofs.TwoDimensions.StepsOn.{quick_steps, row_ends, row_stays}

-- a 1 bit is the code of V0
pub v0_seen : (word : ℕ) (x : List Bool) → word / 2 ^ 63 ≡ 1 → AreFirst 7 x word → 7 ≤ length x → begins (mode_word (Vertical V0)) x ≡ true
unfolding number_text
v0_seen word x one first long =
    let seen : first_bits 1 x ≡ number_text 1 1 = sym (front_first 1 63 7 x word refl (omega arith) first) ∙ ap (number_text 1) one in
    begins_unfilled (true ∷ []) x 1 (omega arith) (omega arith) (rw seen refl)

-- the codes of VR1 and VL1
pub vr1_seen : (word : ℕ) (x : List Bool) → word / 2 ^ 61 ≡ 3 → AreFirst 7 x word → 7 ≤ length x
    → begins (mode_word (Vertical VR1)) x ≡ true
unfolding number_text
vr1_seen word x three first long =
    let seen : first_bits 3 x ≡ number_text 3 3 = sym (front_first 3 61 7 x word refl (omega arith) first) ∙ ap (number_text 3) three in
    begins_unfilled (false ∷ true ∷ true ∷ []) x 3 (omega arith) (omega arith) (rw seen refl)

pub vl1_seen : (word : ℕ) (x : List Bool) → word / 2 ^ 61 ≡ 2 → AreFirst 7 x word → 7 ≤ length x
    → begins (mode_word (Vertical VL1)) x ≡ true
unfolding number_text
vl1_seen word x two first long =
    let seen : first_bits 3 x ≡ number_text 3 2 = sym (front_first 3 61 7 x word refl (omega arith) first) ∙ ap (number_text 3) two in
    begins_unfilled (false ∷ true ∷ false ∷ []) x 3 (omega arith) (omega arith) (rw seen refl)

-- a 0 and a 1 bit begin one of these two, and the third bit says which
pub beside_seen : (word : ℕ) → word / 2 ^ 62 ≡ 1 → (x : List Bool) → AreFirst 7 x word → 7 ≤ length x
    → begins (mode_word (Vertical (beside word))) x ≡ true
beside_seen word one x first long = elim (cases_eq (word / 2 ^ 61) 3) [
  | inl e ↦ rw (eq-eqb (word / 2 ^ 61) 3 e) (vr1_seen word x e first long)
  | inr ne ↦ rw (ne_eqb (word / 2 ^ 61) 3 ne) (vl1_seen word x (omega (arith, one, ne)) first long)
]

pub beside_count : (word : ℕ) → 3 ≡ length (mode_word (Vertical (beside word)))
beside_count word = count (nat_eq (word / 2 ^ 61) 3)
  where
    count : (right : Bool) → 3 ≡ length (mode_word (Vertical (cond right VR1 VL1)))
    count true = refl
    count false = refl

-- the flag of horizontal mode
pub horizontal_seen : (word : ℕ) (x : List Bool) → word / 2 ^ 61 ≡ 1 → AreFirst 7 x word → 7 ≤ length x
    → begins (mode_word Horizontal) x ≡ true
unfolding number_text
horizontal_seen word x one first long =
    let seen : first_bits 3 x ≡ number_text 3 1 = sym (front_first 3 61 7 x word refl (omega arith) first) ∙ ap (number_text 3) one in
    begins_unfilled (false ∷ false ∷ true ∷ []) x 3 (omega arith) (omega arith) (rw seen refl)

-- how long a coding line and its reference line are
pub lengths : (held list : List ℕ) (width : ℕ) (front : Front) (reference : List Color) → FitsLists held list width front
    → AreHeld reference held → (length (line_of list front).pixels ≡ front.from - 1) × (length reference ≡ width)
lengths held list width front reference fits is = (
  length_line (take front.turns list) front.from fits.line,
  sym ((ends_held reference held is).ends (length held - 1) (omega arith) (omega (arith, fits.ended.some))) ∙
      fits.ended.ends (length held - 1) (omega arith) (omega (arith, fits.ended.some)),
)

-- no mode yet
pub along_none : (reference : List Color) (old : Reading) (line : CodingLine) → old.place ≤ length old.bits
    → length line.pixels ≤ length reference → StepsAlong reference old (record { bits = old.bits; place = old.place + 0 }) line line
along_none reference old line within fits =
    let here : old.place + 0 ≡ old.place = omega arith in
    rw here (
      refl,
      omega arith,
      within,
      fits,
      λ page is. goes_none (length reference) (mode_ended (length reference) page line) old.place
          (rest_of old),
    )

-- one mode more
pub along_more : (reference : List Color) (old mid new : Reading) (line now next : CodingLine) → StepsAlong reference old mid line now
    → length now.pixels < length reference → StepsOn reference mid new now next (Ok tt) → StepsAlong reference old new line next
along_more reference old mid new line now next before short step = (
  step.0 ∙ before.0,
  omega (arith, before.1, step.1),
  step.2,
  step.3,
  λ page is. goes_twice (length reference) (mode_ended (length reference) page line) (mode_ended (length reference) page now)
      (mode_ended (length reference) page next) old.place mid.place new.place (rest_of old) (rest_of mid) (rest_of new) (before.4 page is)
      (subst (λ (s : PageState). GoesTo (length reference) s mid.place (rest_of mid) (mode_ended (length reference) page next) new.place
      (rest_of new)) (sym (mode_ended_short (length reference) page now short)) (step.4 page is)),
)

-- modes that were read, and then others
pub along_twice : (reference : List Color) (old mid new : Reading) (line now next : CodingLine) → StepsAlong reference old mid line now
    → StepsAlong reference mid new now next → StepsAlong reference old new line next
along_twice reference old mid new line now next one two = (
  two.0 ∙ one.0,
  omega (arith, one.1, two.1),
  two.2,
  two.3,
  λ page is. goes_twice (length reference) (mode_ended (length reference) page line) (mode_ended (length reference) page now)
      (mode_ended (length reference) page next) old.place mid.place new.place (rest_of old) (rest_of mid) (rest_of new) (one.4 page is)
      (two.4 page is),
)

-- a mode that begins a word, after the bits that were used
pub along_step : (reference : List Color) (held : List ℕ) (old : Reading) (used word count : ℕ) (line now next : CodingLine)
    → AreHeld reference held → used ≤ 50 → 57 ≤ length (rest_of old) → AreFirst (57 - used) (drop used (rest_of old)) word
    → length now.pixels < length reference → StepsBy held word now next count
    → StepsAlong reference old (record { bits = old.bits; place = old.place + used }) line now
    → StepsAlong reference old (record { bits = old.bits; place = old.place + (used + count) }) line next
along_step reference held old used word count line now next is few long first short step before =
    let here : rest_of (record { bits = old.bits; place = old.place + used }) ≡ drop used (rest_of old) = sym
    (drop-drop used old.place old.bits)
    in
    let left = length-drop used (rest_of old) in
    let all = length-drop old.place old.bits in
    let size = (mode_some step.code).1 in
    let next_place : old.place + used + count ≡ old.place + (used + count) = omega arith in
    along_more reference old (record { bits = old.bits; place = old.place + used })
    (record { bits = old.bits; place = old.place + (used + count) }) line now next before short
    (quick_steps reference (record { bits = old.bits; place = old.place + used })
    (record { bits = old.bits; place = old.place + (used + count) }) now next step.code count
    (rw here (step.begun (drop used (rest_of old)) (λ k h. first k (omega arith)) (omega (arith, left, long))))
    step.count_is (omega (arith, all, long, size, step.count_is))
    (ap (λ (n : ℕ). record { bits = old.bits; place = n }) (sym next_place)) (step.leads reference is))

-- the word after a mode
pub word_after : (held : List ℕ) (old : Reading) (used word count : ℕ) (now next : CodingLine) → used ≤ 50
    → AreFirst (57 - used) (drop used (rest_of old)) word → StepsBy held word now next count
    → AreFirst (57 - (used + count)) (drop (used + count) (rest_of old)) (word * 2 ^ count % 2 ^ 64)
word_after held old used word count now next few first step =
    let size = (mode_some step.code).1 in
    let left : 57 - used - count ≡ 57 - (used + count) = omega arith in
    rw (← left, ← drop-drop count used (rest_of old)) (front_moved count (57 - used) (drop used (rest_of old)) word
    (omega (arith, size, step.count_is)) (omega arith) first)

-- how many bits a mode has
pub count_size : (held : List ℕ) (word count : ℕ) (now next : CodingLine) → StepsBy held word now next count → (0 < count) × (count ≤ 7)
count_size held word count now next step =
    let size = mode_some step.code in (omega (arith, size.0, step.count_is), omega (arith, size.1, step.count_is))

-- ---- a row

-- before its first pixel a row is inside a page
begun : (reference : List Color) (old new : Reading) (line : CodingLine) → 0 < length reference
    → StepsAlong reference old new line_begin line
    → (page : PageSoFar) → page.reference ≡ reference
    → row_reading (length reference) (inside page line_begin) old.place (rest_of old)
    ≡ row_reading (length reference) (mode_ended (length reference) page line) new.place (rest_of new)
begun reference old new line wide along page is =
    ap (λ (s : PageState). row_reading (length reference) s old.place (rest_of old))
    (sym (mode_ended_short (length reference) page line_begin wide)) ∙ goes_reads (length reference) (mode_ended (length reference) page
    line_begin) (mode_ended (length reference) page line) old.place new.place (rest_of old) (rest_of new) (along.4 page is)

-- modes of a row, and then a refusal
pub along_stays : (reference : List Color) (start old new : Reading) (line next : CodingLine) (fault : CodeFault) → 0 < length reference
    → length line.pixels < length reference → StepsAlong reference start old line_begin line → StepsOn reference old new line next
    (Err fault)
    → ReadsRow reference start new (Err fault)
along_stays reference start old new line next fault wide short along step =
    row_stays reference start old new line next fault short (begun reference start old line wide along) step

-- modes of a row until it is whole
pub along_ends : (reference : List Color) (start now : Reading) (line : CodingLine) (row : List Color) → 0 < length reference
    → row ≡ line.pixels → length line.pixels ≡ length reference → StepsAlong reference start now line_begin line
    → ReadsRow reference start now (Ok row)
along_ends reference start now line row wide same full along = (
  ap length same ∙ full,
  along.0,
  along.2,
  row_ends reference start now line row same full (begun reference start now line wide along),
)
