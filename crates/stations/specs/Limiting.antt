-- An answerer that stores no more pages than it is given room for.
use Rattle.std.specs.Prelude.{ℕ, ◌≡◌, ◌⊎◌, ◌+◌, ◌*◌, ◌/◌, Bool, true, false, not, cond, ◌&&◌, ◌||◌, List, [], ◌∷◌, ◌++◌, length, nat_le}
use Rattle.std.specs.Prelude.{Option, Some, None, Result, Ok, Err}
use Rattle.raster.specs.Pages.{PagePixels}
use Rattle.signals.specs.Signals.{fcd, pps}
use Rattle.stations.specs.AnswererStep.{Answerer, AnswererAnswer, answerer_silent, answerer_step, is_repeated, Steps}
use Rattle.stations.specs.Inputs.{AnswererInput, listens, is_busy}
use Rattle.stations.specs.Listening.{last_reply}
use Rattle.stations.specs.Stopping.{StaysSilent}
use Rattle.stations.specs.declared.limiting.Limits.{Limits}
use Rattle.stations.specs.declared.stopping.Cut.{Cut}
use Rattle.stations.specs.declared.turn.End.{End}
use Rattle.stations.specs.declared.turn.Turn.{Turn}
use Rattle.stations.specs.declared.turn.Turn.TheVariants.{Mcf, Rnr}

-- the octets of a page's packed rows
abbrev pub page_octets : PagePixels → ℕ
page_octets page = length page.rows * ((page.width + 7) / 8)

-- the octets of the packed rows of pages
abbrev pub octets_of_pages : List PagePixels → ℕ
octets_of_pages [] = 0
octets_of_pages (page ∷ pages) = page_octets page + octets_of_pages pages

-- pages reach a limit: they are as many as the limit, or their packed rows have as many octets
unfoldable pub is_full : Limits → List PagePixels → Bool
is_full limits pages = nat_le limits.pages (length pages) || nat_le limits.octets (octets_of_pages pages)

-- RNR in place of MCF
abbrev pub not_ready : Turn → Turn
not_ready Mcf = Rnr
not_ready turn = turn

-- what a step answers if the station had been busy before
abbrev pub busy_answer : AnswererAnswer → AnswererAnswer
busy_answer answer = record { next = record answer.next { busy = true }; turn = not_ready answer.turn }

-- an input that isn't whether the station is busy
abbrev pub IsNoBusy : AnswererInput → Type 0
IsNoBusy (is_busy busy) = ⊥
IsNoBusy _ = Unit {0}

-- law: an answerer that was busy before an input answers RNR in place of MCF, and all else is the same
abbrev pub BusyBefore : Type 0
BusyBefore =
    (s : Answerer) (input : AnswererInput) → IsNoBusy input →
    answerer_step (record s { busy = true }) input ≡ busy_answer (answerer_step s input)

-- what a full answerer doesn't hear: an FCD, and a PPS of another mark than that of the last accepted block
abbrev pub is_kept_out : Answerer → AnswererInput → Bool
is_kept_out s (listens (fcd number octets)) = true
is_kept_out s (listens (pps ends page block last)) = not (is_repeated s.accepted (record { page = page; block = block }))
is_kept_out s _ = false

-- a full answerer stays busy, whatever the program says
abbrev pub busy_while : Bool → AnswererInput → AnswererInput
busy_while full (is_busy busy) = is_busy (busy || full)
busy_while full input = input

-- the page that reaches a limit is stored as if the answerer had become busy just before
abbrev pub filled : Bool → Bool → AnswererAnswer → AnswererAnswer
filled before after answer = cond (not before && after) (busy_answer answer) answer

-- the step of an answerer with limits: the answerer's own, but a full one is silent at what it doesn't hear, and the page that fills it
-- makes it busy and has RNR in place of MCF
abbrev pub limited_step : Limits → Answerer → AnswererInput → AnswererAnswer
limited_step limits s input =
    cond (is_full limits s.pages && is_kept_out s input)
    (answerer_silent s)
    (filled (is_full limits s.pages)
    (is_full limits (answerer_step s (busy_while (is_full limits s.pages) input)).next.pages)
    (answerer_step s (busy_while (is_full limits s.pages) input)))

-- at most one page is above a limit: without the last page stored no limit is reached
abbrev pub IsWithin : Limits → List PagePixels → Type 0
IsWithin limits pages = (pages ≡ []) ⊎ ((front : List PagePixels) × (page : PagePixels) × (pages ≡ front ++ page ∷ []) × (is_full limits front ≡ false))

-- an answerer with its limits, whether the program said last that it is busy, its last reply, and what cut its call off, if anything did
pub record LimitedFields : Type 0 where
  pub station : Answerer
  pub limits : Limits
  pub told : Bool
  pub said : Turn
  pub cut : Option Cut

-- whether the program said last that the answerer is busy; a full one remembers it
abbrev pub told_by : Bool → AnswererInput → Bool
told_by told (is_busy busy) = busy
told_by told input = told

-- a step of the program does what the step with limits does; or memory was refused, and nothing has changed
abbrev pub LimitedSteps : {E : Type 0} → LimitedFields → AnswererInput → LimitedFields → Result Turn E → Type 0
LimitedSteps old input new (Ok turn) =
    Steps old.station new.station turn (limited_step old.limits old.station input) × (new.limits ≡ old.limits) ×
    (new.told ≡ told_by old.told input) × (new.cut ≡ old.cut) × (new.said ≡ last_reply old.said turn)
LimitedSteps old input new (Err refused) = new ≡ old

-- a step of the program with limits; after a cut it is silent and changes nothing
abbrev pub LimitedStepsUnlessCut : {E : Type 0} → LimitedFields → AnswererInput → LimitedFields → Result Turn E → Option Cut → Type 0
LimitedStepsUnlessCut old input new result None = LimitedSteps old input new result
LimitedStepsUnlessCut old input new result (Some why) = StaysSilent old new result

-- the answerer after its pages are taken: one that runs is as busy as the program said last
abbrev pub freed : Option End → Bool → Answerer → Answerer
freed None told s = record s { pages = []; busy = told }
freed (Some why) told s = record s { pages = [] }
