-- A call that keeps no transcript: what its fields represent, and what holds of them.
use Rattle.std.specs.Prelude.{◌≡◌, ◌≤◌, ℕ, List, [], ◌∷◌, length, take, slice_get, Some}
use Rattle.raster.specs.Pages.{PagePixels}
use Rattle.stations.specs.Taken.{with_front}
use Rattle.line_sim.specs.Invariant.{Holds}
use Rattle.line_sim.specs.Line.{Outcome, Done}
use Rattle.line_sim.specs.Represents.{IsReached}
use Rattle.line_sim.specs.declared.call.Call.{Call}
use Rattle.line_sim.specs.declared.event.Entry.{Entry}
use Rattle.line_sim.specs.declared.event.Event.{Event}
use Rattle.line_sim.specs.declared.event.Event.TheVariants.{AnswererT2, DeliverToCaller}
use Rattle.line_sim.specs.declared.live.Next.{Next}
use Rattle.line_sim.specs.declared.live.Next.TheVariants.{Item, Group, Nothing}

-- events lead from a new world to the fields, with some entries
abbrev pub IsLive : Call → Type 0
IsLive v = (noted : List Entry) × IsReached (record { call = v; entries = noted })

-- a call with this many of the document's pages before those that its answerer keeps
abbrev pub whole_call : ℕ → Call → Call
whole_call same v = record v { answerer = with_front (take same v.caller.document) v.answerer }

-- with these pages the call is live; the document has as many, and the answerer keeps none: no stored page is kept twice
pub record IsWhole (same : ℕ) (v : Call) : Type 0 where
  pub live : IsLive (whole_call same v)
  pub few : same ≤ length v.caller.document
  pub once : v.answerer.pages ≡ []

-- the answerer has one page, and it is the document's at this place
abbrev pub HasAgain : Call → ℕ → Type 0
HasAgain v at = (page : PagePixels) × (v.answerer.pages ≡ page ∷ []) × (slice_get v.caller.document at ≡ Some page)

-- what holds of the fields of every world holds of the fields of a call that keeps no transcript, with some entries
abbrev pub HoldsLive : Call → Type 0
HoldsLive v = (noted : List Entry) × Holds (record { call = v; entries = noted })

-- the steps that the call says come next if nobody disturbs it: those of a polite run's next delivery
abbrev pub steps_in : Next → List (Event × Outcome)
steps_in (Item event) = (event, Done) ∷ []
steps_in Group = (AnswererT2, Done) ∷ (DeliverToCaller, Done) ∷ []
steps_in Nothing = []
