-- The reference line and the coding line of a row that is read, as lists of the places where they change their color (ITU-T T.6, 2.2.1).
use Rattle.std.specs.Prelude.{ℕ, ◌≡◌, ◌+◌, ◌-◌, ◌/◌, ◌%◌, ◌^◌, ◌<◌, ◌≤◌, ◌⊎◌, Bool, true, List, All, Err, cond, length, take, nat_eq, nat_lt, slice_index_or}
use Rattle.raster.specs.declared.row.Color.{Color}
use Rattle.raster.specs.declared.row.Color.TheVariants.{White}
use Rattle.raster.specs.Pixels.{IsWidth, other}
use Rattle.raster.specs.Changes.{IsRising, turned, turning}
use Rattle.run_tables.specs.Numbers.{AreFirst}
use Rattle.run_tables.specs.Texts.{begins}
use Rattle.run_tables.specs.declared.fault.CodeFaultKind.{CodeFaultKind}
use Rattle.run_tables.specs.declared.fault.CodeFaultKind.TheVariants.{Backwards, PastEnd}
use Rattle.page_code.specs.declared.t6.front.Front.{Front}
use Rattle.page_code.specs.declared.t6.mode.ModeCode.{ModeCode}
use Rattle.page_code.specs.declared.t6.mode.Shift.{Shift}
use Rattle.page_code.specs.declared.t6.mode.Shift.TheVariants.{VL1, VR1}
use Rattle.page_code.specs.TwoDimensions.Changes.{AreHeld}
use Rattle.page_code.specs.TwoDimensions.Fronts.{PageSoFar, after_mode, mode_word}
use Rattle.page_code.specs.TwoDimensions.Modes.{to_left, to_right}
use Rattle.page_code.specs.TwoDimensions.Positions.{CodingLine}
use Rattle.page_code.specs.TwoDimensions.Reading.{LeadsOn}

-- a row's reference line and its coding line up to a0
pub record BothLines : Type 0 where
  pub reference : List Color
  pub line : CodingLine

-- the coding line that changes its color at these places, up to an a0 with this least place to its right
abbrev pub line_before : List ℕ → ℕ → CodingLine
line_before places from = record { pixels = turning White 0 places (from - 1); begun = nat_lt 0 from; color = turned White places }

-- the coding line of a front: its changing places are the first ones of a list
abbrev pub line_of : List ℕ → Front → CodingLine
line_of list front = line_before (take front.turns list) front.from

-- places in rising order, all to the left of another
pub record AreLeftOf (places : List ℕ) (from : ℕ) : Type 0 where
  pub rising : IsRising places
  pub below : All (λ place. place < from) places

-- a list of a line's places: in rising order, and then the line's width three times
pub record EndsWith (held : List ℕ) (width : ℕ) : Type 0 where
  pub some : 3 ≤ length held
  pub rising : (i j : ℕ) → i ≤ j → j < length held → slice_index_or held i 0 ≤ slice_index_or held j 0
  pub ends : (k : ℕ) → length held ≤ k + 3 → k < length held → slice_index_or held k 0 ≡ width

-- of a list of a line's places, those to the left of its width differ
abbrev pub AreApart : List ℕ → ℕ → Type 0
AreApart held width = (i j : ℕ) → i < j → j < length held → slice_index_or held j 0 < width → slice_index_or held i 0 < slice_index_or held j 0

-- among every second place up to an index, the one before the index is to the left of a place
abbrev pub IsSoughtFrom : List ℕ → ℕ → ℕ → Type 0
IsSoughtFrom held from at = 2 ≤ at → slice_index_or held (at - 2) 0 < from

-- among every second place, the first that isn't to the left of a place
pub record IsFoundAt (held : List ℕ) (from at : ℕ) : Type 0 where
  pub within : at + 1 < length held
  pub left : IsSoughtFrom held from at
  pub reached : from ≤ slice_index_or held at 0

-- a front that fits the reference line's places, a list of the coding line's places, and their width: b1's color is the other one than
-- a0's
pub record FitsLists (held list : List ℕ) (width : ℕ) (front : Front) : Type 0 where
  pub wide : IsWidth width
  pub ended : EndsWith held width
  pub apart : AreApart held width
  pub turns : front.turns ≤ length list
  pub line : AreLeftOf (take front.turns list) front.from
  pub room : width + 4 ≤ length list
  pub low : front.from ≤ width + 1
  pub index : front.at < length held
  pub sought : IsSoughtFrom held front.from front.at
  pub even : (front.at + front.turns) % 2 ≡ 0

-- a mode code leads on, whatever row has these places as its reference line's
abbrev pub Leads : List ℕ → CodingLine → CodingLine → ModeCode → Type 0
Leads held line next code = (reference : List Color) → AreHeld reference held → LeadsOn reference line next code

-- a mode code is refused after a line
abbrev pub Refuses : List ℕ → CodingLine → ModeCode → CodeFaultKind → Type 0
Refuses held line code kind =
    (reference : List Color) → AreHeld reference held → (page : PageSoFar) → page.reference ≡ reference
    → after_mode (length reference) page line code ≡ Err kind

-- why there is no a1 for b1: it would not be to the right of a0 (Backwards), or past the width (PastEnd)
abbrev pub RefusesA1 : ℕ → Shift → ℕ → ℕ → CodeFaultKind → Type 0
RefusesA1 b1 shift from width kind =
    ((b1 + to_right shift < from + to_left shift) × (kind ≡ Backwards)) ⊎
    ((from + to_left shift ≤ b1 + to_right shift) × (width + to_left shift < b1 + to_right shift) × (kind ≡ PastEnd))

-- the mode whose code a number begins with, if it begins with the bits 01 (T.6, table 1)
abbrev pub beside : ℕ → Shift
beside word = cond (nat_eq (word / 2 ^ 61) 3) VR1 VL1

-- a mode code that begins with a number's first seven bits leads on, and has `count` bits
pub record StepsBy (held : List ℕ) (word : ℕ) (line next : CodingLine) (count : ℕ) : Type 0 where
  pub code : ModeCode
  pub begun : (x : List Bool) → AreFirst 7 x word → 7 ≤ length x → begins (mode_word code) x ≡ true
  pub count_is : count ≡ length (mode_word code)
  pub leads : Leads held line next code

-- the color turns at a place once more: the list has one place more, or one less if the place was in it
pub record TurnsAt (old new : List ℕ) (place : ℕ) : Type 0 where
  pub rising : IsRising new
  pub below : All (λ p. p ≤ place) new
  pub pixels : turning White 0 new place ≡ turning White 0 old place
  pub color : turned White new ≡ other (turned White old)
