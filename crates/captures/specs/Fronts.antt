-- The rows of a page in a capture that are there before its first gap: where frames of it are missing, or its end is.
use Rattle.std.specs.Prelude.{ℕ, ◌≡◌, ◌≤◌, ◌<◌, ◌++◌, ◌∷◌, [], ◌||◌, ◌&&◌, Bool, true, false, cond, nat_eq, List, length}
use Rattle.std.specs.Prelude.{Option, Some, None, Result, Ok, Err}
use Rattle.raster.specs.Packed.{bits_of}
use Rattle.raster.specs.Pages.{PagePixels}
use Rattle.raster.specs.declared.packed.Order.TheVariants.{LsbFirst}
use Rattle.page_code.specs.RowsSoFar.{AreWholeRows}
use Rattle.partial_page.specs.Store.{is_missing, joined_frames}
use Rattle.signals.specs.Agreement.{pixels_of}
use Rattle.signals.specs.Reading.{read_content}
use Rattle.signals.specs.Signals.{PlainSignal, dcn, dcs, pps}
use Rattle.signals.specs.declared.fault.SignalFault.{SignalFault}
use Rattle.signals.specs.declared.params.Params.{Params}
use Rattle.partial_page.specs.Assembling.{Frames}
use Rattle.signals.specs.Marks.{same_mark}
use Rattle.signals.specs.declared.mark.Mark.{Mark}
use Rattle.signals.specs.declared.mark.Pps.{Pps}
use Rattle.captures.specs.Captured.{Capture, agreed, at_end, empty_capture, has_used_number, hears_all, hears_read, is_again}
use Rattle.captures.specs.Found.{FoundStep, TakesEach}

-- ---- octets before a gap

-- the data of a block's frames before the first one that is missing, one after the other
pub record IsFrontOf (frames : Frames) (octets : List ℕ) : Type 0 where
  pub count : ℕ
  pub most : count ≤ 256
  pub there : (k : ℕ) → k < count → is_missing frames k ≡ false
  pub gap : count < 256 → is_missing frames count ≡ true
  pub joined : octets ≡ joined_frames frames count

-- octets with those of a block's frames before the first one that is missing after them
abbrev pub AppendsFront : Frames → List ℕ → List ℕ → Type 0
AppendsFront frames old new = (front : List ℕ) × IsFrontOf frames front × (new ≡ old ++ front)

-- the frames of the open block: those kept of the block that waits for others; if none waits, those since the last PPS
abbrev pub open_frames : Option Pps → Capture → Frames
open_frames (Some waiting) s = s.kept
open_frames None s = s.coming

-- nothing if a block of the page is missing; otherwise the octets of its whole blocks, and then the front of the open one
abbrev pub IsFrontBy : Bool → Capture → List ℕ → Type 0
IsFrontBy true s octets = octets ≡ []
IsFrontBy false s octets = AppendsFront (open_frames s.waiting s) s.octets octets

-- the octets of the open page before its first gap, when no more of it follows
abbrev pub IsOpenFront : Capture → List ℕ → Type 0
IsOpenFront s octets = IsFrontBy s.spoiled s octets

-- a block is the one that waits for frames, or if none waits the next one of the page, also under a number that was used
abbrev pub is_its_turn : Option Pps → Mark → Capture → Bool
is_its_turn (Some waiting) mark s = same_mark waiting.mark mark
is_its_turn None mark s = nat_eq mark.page s.page && nat_eq mark.block s.next || has_used_number s.said mark s

-- a PPS doesn't give up the open page: it is sent again, or its block goes on with the page
abbrev pub goes_on : Mark → Capture → Bool
goes_on mark s = is_again mark s || is_its_turn s.waiting mark s

-- The octets before the gap of a page that a PPS gives up: if another block waits for frames, those before its first missing one; if none
-- waits, those of the whole blocks.
abbrev pub IsLostFront : Option Pps → Capture → List ℕ → Type 0
IsLostFront (Some waiting) s octets = IsOpenFront s octets
IsLostFront None s octets = octets ≡ cond s.spoiled [] s.octets

-- the octets that a PPS leaves: none if the page goes on
abbrev pub IsFrontAt : Bool → Capture → List ℕ → Type 0
IsFrontAt true s octets = octets ≡ []
IsFrontAt false s octets = IsLostFront s.waiting s octets

-- the octets that a signal leaves before a gap of the open page: a DCS or a DCN, after which nothing of it comes, or a PPS
abbrev pub IsFrontOfSignal : PlainSignal → Capture → List ℕ → Type 0
IsFrontOfSignal (dcs params) s octets = IsOpenFront s octets
IsFrontOfSignal dcn s octets = IsOpenFront s octets
IsFrontOfSignal (pps ends page block last) s octets = IsFrontAt (goes_on (record { page = page; block = block }) s) s octets
IsFrontOfSignal signal s octets = octets ≡ []

-- the octets that a content leaves before a gap of the open page: those of its signal; none if it isn't a signal
abbrev pub IsFrontBefore : Result PlainSignal SignalFault → Capture → List ℕ → Type 0
IsFrontBefore (Ok signal) s octets = IsFrontOfSignal signal s octets
IsFrontBefore (Err fault) s octets = octets ≡ []

-- ---- rows before a gap

-- the page of the whole rows that octets begin with, as pages were sent by the DCS
pub record IsFrontPage (params : Params) (octets : List ℕ) (page : PagePixels) : Type 0 where
  pub width_is : page.width ≡ pixels_of params.width
  pub fine_is : page.fine ≡ params.fine
  pub rows_are : AreWholeRows params.coding (pixels_of params.width) (bits_of LsbFirst octets) page.rows

-- what a store says of the rows before a gap: the store before, the number of their page modulo 256, their page, and the store after
abbrev pub FrontStep : Type 0 → Type 1
FrontStep S = S → ℕ → PagePixels → S → Type 0

-- the store takes the page of the rows before a gap, if that has a row
abbrev pub GivesFront : {S : Type 0} → FrontStep S → Option Params → ℕ → List ℕ → S → S → Type 0
GivesFront fronts None number octets old new = new ≡ old
GivesFront fronts (Some params) number octets old new = (page : PagePixels) × IsFrontPage params octets page
    × (0 < length page.rows → fronts old number page new) × (length page.rows ≡ 0 → new ≡ old)

-- ---- a line

-- a content: the rows before the gap that it leaves are taken, and then what is found
pub record Salvages {S : Type 0} (takes : FoundStep S) (fronts : FrontStep S) (heard : Result PlainSignal SignalFault) (s : Capture)
    (old new : S) : Type 0 where
  pub octets : List ℕ
  pub front : IsFrontBefore heard s octets
  pub mid : S
  pub given : GivesFront fronts (agreed s) s.page octets old mid
  pub found : TakesEach takes mid (hears_read heard s).found new

-- contents, one after the other, each by `Salvages`
abbrev pub SalvagesEach : {S : Type 0} → FoundStep S → FrontStep S → List (List ℕ) → Capture → S → S → Type 0
SalvagesEach takes fronts [] s old new = new ≡ old
SalvagesEach {S} takes fronts (content ∷ contents) s old new = (mid : S) × Salvages takes fronts (read_content content) s old mid
    × SalvagesEach takes fronts contents (hears_read (read_content content) s).then mid new

-- the end of the line: the rows of the open page before its gap, and then what is found
pub record SalvagesEnd {S : Type 0} (takes : FoundStep S) (fronts : FrontStep S) (s : Capture) (old new : S) : Type 0 where
  pub octets : List ℕ
  pub front : IsOpenFront s octets
  pub mid : S
  pub given : GivesFront fronts (agreed s) s.page octets old mid
  pub found : TakesEach takes mid (at_end s) new

-- All contents of a line were heard. For each, the store took first the page of the rows before the gap that it leaves, if that has a row,
-- and then what was found. A gap is left by a DCS, a DCN, a PPS that gives up the open page, and the end of the line. The rows are all
-- whole rows in the octets of the page's whole blocks, followed by the open block's frames before its first missing one.
pub record SalvagesAll {S : Type 0} (takes : FoundStep S) (fronts : FrontStep S) (contents : List (List ℕ)) (old new : S) : Type 0 where
  pub mid : S
  pub each : SalvagesEach takes fronts contents (empty_capture None) old mid
  pub ends : SalvagesEnd takes fronts (hears_all contents (empty_capture None)).then mid new
