-- What a step of an answerer changes, field by field, and to what.
use Rattle.std.specs.Prelude.{ℕ, ◌≡◌, ◌≢◌, ◌≤◌, ◌<◌, ◌+◌, ◌⊎◌, ◌↔◌, ◌++◌, Bool, true, false, List, [], ◌∷◌, length, Some, None}
use Rattle.raster.specs.Pages.{PagePixels}
use Rattle.signals.specs.Agreement.{allowed}
use Rattle.signals.specs.Signals.{dcs, fcd, pps}
use Rattle.signals.specs.declared.params.Params.{Params}
use Rattle.signals.specs.declared.signal.PageEnd.{PageEnd}
use Rattle.signals.specs.declared.signal.PageEnd.TheVariants.{Null}
use Rattle.partial_page.specs.Store.{IsKept, bit_of, has_frame, joined_frames, no_frames}
use Rattle.stations.specs.Layers.{IsPageOf}
use Rattle.stations.specs.Inputs.{AnswererInput, listens, is_busy}
use Rattle.stations.specs.AnswererStep.{Answerer, AnswererAnswer, answerer_step}
use Rattle.partial_page.specs.Assembling.{last_counted}
use Rattle.stations.specs.EndsMean.{IsAccepted, IsBad}
use Rattle.partial_page.specs.Assembling.{IsTooLong}
use Rattle.partial_page.specs.Assembling.{Asked}
use Rattle.signals.specs.declared.mark.Mark.{Mark}
use Rattle.stations.specs.declared.turn.AnswererState.TheVariants.{PhaseB, WaitTraining, Message}
use Rattle.stations.specs.declared.turn.Turn.{Turn}
use Rattle.stations.specs.declared.turn.Turn.TheVariants.{Ppr as SendPpr}

-- a DCS comes that is allowed
abbrev pub MeetsDcs : Answerer → AnswererInput → Type 0
MeetsDcs s input = (params : Params) × (input ≡ listens (dcs params)) × (allowed s.caps params ≡ true)

-- an FCD comes in the message, no longer than agreed
abbrev pub MeetsFrame : Answerer → AnswererInput → Type 0
MeetsFrame s input =
    (s.state ≡ Message) ×
    ((number : ℕ) × (octets : List ℕ) × (input ≡ listens (fcd number octets)) × (¬ IsTooLong s.params octets))

-- in the message comes the PPS of a block that isn't the last accepted one; the frames counted are those up to the greatest last one that
-- was named for this block
pub record MeetsBlock (s : Answerer) (input : AnswererInput) (ends : PageEnd) (mark : Mark) (counted : ℕ) : Type 0 where
  pub in_message : s.state ≡ Message
  pub last : ℕ
  pub heard : input ≡ listens (pps ends mark.page mark.block last)
  pub is_new : ¬ IsAccepted s mark.page mark.block
  pub counted_is : counted ≡ last_counted s.asked mark last

-- the PPS of a new block comes in the message, and a frame of the block is missing
abbrev pub MeetsGap : Answerer → AnswererInput → Type 0
MeetsGap s input =
    (ends : PageEnd) × (mark : Mark) × (counted : ℕ) × MeetsBlock s input ends mark counted ×
    ((number : ℕ) × (number ≤ counted) × (has_frame s.frames number ≡ false))

-- a block is taken: each of its frames is there. Its mark and its end are kept, its frames are cleared, and what was asked for is
-- forgotten.
-- At NULL its octets are put after those of the open page; else all these octets read as a page, which is stored, and no page is open
pub record TakesBlock (s : Answerer) (input : AnswererInput) (next : Answerer) : Type 0 where
  pub ends : PageEnd
  pub mark : Mark
  pub counted : ℕ
  pub meets : MeetsBlock s input ends mark counted
  pub all_there : (number : ℕ) → number ≤ counted → has_frame s.frames number ≡ true
  pub accepted : next.accepted ≡ Some (record { mark = mark; ends = ends })
  pub forgets : next.asked ≡ None
  pub clears : next.frames ≡ no_frames
  pub octets : List ℕ
  pub octets_are : octets ≡ s.octets ++ joined_frames s.frames (counted + 1)
  pub inside : ends ≡ Null → (next.octets ≡ octets) × (next.pages ≡ s.pages)
  pub stores :
      ends ≢ Null → (next.octets ≡ []) × ((stored : PagePixels) × IsPageOf s.params octets stored × (next.pages ≡ s.pages ++ stored ∷ []))

-- what a step of an answerer may change, field by field, and when
pub record AnswererKeeps (s : Answerer) (input : AnswererInput) (next : Answerer) : Type 0 where
  -- the capabilities nowhere
  pub caps : next.caps ≡ s.caps
  -- whether it is busy at the input that says so
  pub busy : ((b : Bool) → input ≢ is_busy b) → next.busy ≡ s.busy
  -- the parameters at a DCS that is allowed
  pub params : (¬ MeetsDcs s input) → next.params ≡ s.params
  -- the last accepted block, the octets of the open page and the pages together, when a block is taken
  pub block :
      ((next.accepted ≡ s.accepted) × (next.octets ≡ s.octets) × (next.pages ≡ s.pages)) ⊎ TakesBlock s input next
  -- the open frames at an FCD, at a DCS past phase B and when a block is taken
  pub frames :
      (next.frames ≡ s.frames) ⊎ MeetsFrame s input ⊎ (MeetsDcs s input × (s.state ≢ PhaseB)) ⊎ TakesBlock s input next
  -- what a PPR asked for at a PPS with a frame missing, at a DCS past phase B and when a block is taken
  pub asked :
      (next.asked ≡ s.asked) ⊎ MeetsGap s input ⊎ (MeetsDcs s input × (s.state ≢ PhaseB)) ⊎ TakesBlock s input next
  -- whether the memory for frames is taken at an FCD and at a DCS that is allowed
  pub ready : (next.ready ≡ s.ready) ⊎ MeetsFrame s input ⊎ MeetsDcs s input

-- law: a step of any answerer never changes its capabilities; it changes whether it is busy at the input that says so, the parameters at a
-- DCS that is allowed, and the last accepted block, the open page and the stored pages only when a whole new block is taken; the open
-- frames also at an FCD and at a DCS
abbrev pub AnswerersKeep : Type 0
AnswerersKeep = (s : Answerer) (input : AnswererInput) → AnswererKeeps s input (answerer_step s input).next

-- the turn is a PPR whose map of 256 bits marks exactly the frames that are missing and those above the last one counted
pub record MarksMissing (s : Answerer) (counted : ℕ) (turn : Turn) : Type 0 where
  pub map : List ℕ
  pub turn_is : turn ≡ SendPpr map
  pub size : length map ≡ 32
  pub bits : (n : ℕ) → n < 256 → (bit_of map n ≡ true) ↔ ((counted < n) ⊎ (has_frame s.frames n ≡ false))

-- what a step of an answerer that runs changes, and to what
pub record AnswererTakes (s : Answerer) (input : AnswererInput) (answer : AnswererAnswer) : Type 0 where
  -- at a DCS that is allowed the parameters are the DCS's, and a training check is waited for; no memory for frames is taken yet
  pub dcs :
      (params : Params) → input ≡ listens (dcs params) → allowed s.caps params ≡ true →
      (answer.next.params ≡ params) × (answer.next.state ≡ WaitTraining) × (answer.next.ready ≡ false)
  -- past phase B no frame is open then, and what was asked for is forgotten
  pub clears : MeetsDcs s input → s.state ≢ PhaseB → (answer.next.frames ≡ no_frames) × (answer.next.asked ≡ None)
  -- at an FCD no longer than agreed its data are kept under its number, and each other number has what it had
  pub frame :
      (number : ℕ) (octets : List ℕ) → s.state ≡ Message → input ≡ listens (fcd number octets) → (¬ IsTooLong s.params octets) →
      number < length s.frames → IsKept s.frames number octets answer.next.frames × (answer.next.ready ≡ true)
  -- at the PPS of a new block with a frame missing a PPR marks what is missing, and the block's mark and last frame are remembered
  pub gap :
      (ends : PageEnd) (mark : Mark) (counted number : ℕ) → MeetsBlock s input ends mark counted → number ≤ counted →
      has_frame s.frames number ≡ false →
      (answer.next.asked ≡ Some (record { mark = mark; last = counted })) × MarksMissing s counted answer.turn
  -- at the PPS of a new block that is all there, with octets that can be taken, it is accepted
  pub block :
      (ends : PageEnd) (mark : Mark) (counted : ℕ) → MeetsBlock s input ends mark counted →
      ((number : ℕ) → number ≤ counted → has_frame s.frames number ≡ true) →
      (¬ IsBad s ends (s.octets ++ joined_frames s.frames (counted + 1))) →
      (answer.next.accepted ≡ Some (record { mark = mark; ends = ends })) × (answer.next.ending ≡ None)

-- law: an answerer that runs takes the parameters of a DCS, the data of an FCD under its number, the mark and the map of a PPR, and the
-- mark of a block that it accepts
abbrev pub AnswerersTake : Type 0
AnswerersTake = (s : Answerer) (input : AnswererInput) → s.ending ≡ None → AnswererTakes s input (answerer_step s input)

-- law: the last frame of a block that counts is the PPS's, or a greater one that was asked for under the same mark
pub record CountsLast : Type 0 where
  pub unasked : (mark : Mark) (last : ℕ) → last_counted None mark last ≡ last
  pub other : (asked : Asked) (mark : Mark) (last : ℕ) → mark ≢ asked.mark → last_counted (Some asked) mark last ≡ last
  pub smaller : (asked : Asked) (last : ℕ) → last ≤ asked.last → last_counted (Some asked) asked.mark last ≡ asked.last
  pub greater : (asked : Asked) (last : ℕ) → asked.last ≤ last → last_counted (Some asked) asked.mark last ≡ last
