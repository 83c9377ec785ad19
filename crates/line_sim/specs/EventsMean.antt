-- What each event changes, and what it leaves, station by station and list by list.
use Rattle.std.specs.Prelude.{ℕ, ◌≡◌, ◌⊎◌, Bool, List, [], ◌∷◌, ◌++◌, length, replicate}
use Rattle.signals.specs.Signals.{PlainSignal}
use Rattle.stations.specs.Inputs.{PlainItem, framed, checked, hears, timeout, t5, listens, trains, t1, t2, is_busy}
use Rattle.stations.specs.CallerStep.{caller_step}
use Rattle.stations.specs.AnswererStep.{answerer_step}
use Rattle.line_sim.specs.Line.{World, Outcome, happens}
use Rattle.line_sim.specs.Line.Outcome.{Done, Nothing, InputLost}
use Rattle.line_sim.specs.declared.event.Event.{Event}
use Rattle.line_sim.specs.declared.event.Event.TheVariants.{DeliverToAnswerer, DeliverToCaller, LoseToAnswerer, LoseToCaller, Spoil}
use Rattle.line_sim.specs.declared.event.Event.TheVariants.{CallerTimeout, CallerT5, AnswererT1, AnswererT2, Busy}

-- the three events that the caller hears of: a delivery to it, its timeout and its T5
abbrev pub IsForCaller : Event → Type 0
IsForCaller event = (event ≡ DeliverToCaller) ⊎ ((event ≡ CallerTimeout) ⊎ (event ≡ CallerT5))

-- the events that the answerer hears of: a delivery to it, its T1, its T2, and that it is busy or ready
abbrev pub IsForAnswerer : Event → Type 0
IsForAnswerer event =
    (event ≡ DeliverToAnswerer) ⊎ ((event ≡ AnswererT1) ⊎ ((event ≡ AnswererT2) ⊎ ((busy : Bool) × (event ≡ Busy busy))))

-- What an event may change, whatever its outcome. A station changes only at events that it hears of, and only at those does what is under
-- way from it grow; if it transmits, what was under way to it is lost.
pub record Touches (w : World) (event : Event) (next : World) : Type 0 where
  -- a station is as it was at each event that it doesn't hear of: a loss and a spoiled check reach nobody
  pub caller : (¬ IsForCaller event) → next.caller ≡ w.caller
  pub answerer : (¬ IsForAnswerer event) → next.answerer ≡ w.answerer
  -- who hears of an event may put items under way, after those that are there already
  pub to_answerer : IsForCaller event → (items : List PlainItem) × (next.to_answerer ≡ w.to_answerer ++ items)
  pub to_caller : IsForAnswerer event → (items : List PlainItem) × (next.to_caller ≡ w.to_caller ++ items)
  -- who transmits hears nothing of what was under way to him
  pub caller_sends : IsForCaller event → (next.to_answerer ≡ w.to_answerer) ⊎ (next.to_caller ≡ [])
  pub answerer_sends : IsForAnswerer event → (next.to_caller ≡ w.to_caller) ⊎ (next.to_answerer ≡ [])

-- The law: every event, whatever its outcome, changes no more than `Touches` allows.
abbrev pub EventsTouch : Type 0
EventsTouch = (w : World) (event : Event) (outcome : Outcome) → Touches w event (happens w event outcome)

-- what is under way is an item of a list, and these come after it
abbrev pub IsFirst : List PlainItem → PlainItem → List PlainItem → Type 0
IsFirst list item items = list ≡ item ∷ items

-- what an event makes if no growth is refused
pub record Makes (w : World) (event : Event) (next : World) : Type 0 where
  -- the first item under way to a station comes to it, or is lost; a training check is none that a caller takes
  pub hears :
      (signal : PlainSignal) (items : List PlainItem) → event ≡ DeliverToCaller → IsFirst w.to_caller (framed signal) items →
      next.caller ≡ (caller_step w.caller (hears signal)).next
  pub listens :
      (signal : PlainSignal) (items : List PlainItem) → event ≡ DeliverToAnswerer → IsFirst w.to_answerer (framed signal) items →
      next.answerer ≡ (answerer_step w.answerer (listens signal)).next
  pub trains :
      (octets : List ℕ) (items : List PlainItem) → event ≡ DeliverToAnswerer → IsFirst w.to_answerer (checked octets) items →
      next.answerer ≡ (answerer_step w.answerer (trains octets)).next
  pub loses_to_caller :
      (item : PlainItem) (items : List PlainItem) → event ≡ LoseToCaller → IsFirst w.to_caller item items →
      (next.to_caller ≡ items) × (next.to_answerer ≡ w.to_answerer)
  pub loses_to_answerer :
      (item : PlainItem) (items : List PlainItem) → event ≡ LoseToAnswerer → IsFirst w.to_answerer item items →
      (next.to_answerer ≡ items) × (next.to_caller ≡ w.to_caller)
  -- a training check that is first under way has octets FF, as many as before; a frame stays as it is
  pub spoils :
      (octets : List ℕ) (items : List PlainItem) → event ≡ Spoil → IsFirst w.to_answerer (checked octets) items →
      (next.to_answerer ≡ checked (replicate (length octets) 255) ∷ items) × (next.to_caller ≡ w.to_caller)
  pub spares :
      (signal : PlainSignal) (items : List PlainItem) → event ≡ Spoil → IsFirst w.to_answerer (framed signal) items → next ≡ w
  -- a wait is over, or the answerer is busy or ready
  pub timeout : event ≡ CallerTimeout → next.caller ≡ (caller_step w.caller timeout).next
  pub t5 : event ≡ CallerT5 → next.caller ≡ (caller_step w.caller t5).next
  pub t1 : event ≡ AnswererT1 → next.answerer ≡ (answerer_step w.answerer t1).next
  pub t2 : event ≡ AnswererT2 → next.answerer ≡ (answerer_step w.answerer t2).next
  pub busy : (busy : Bool) → event ≡ Busy busy → next.answerer ≡ (answerer_step w.answerer (is_busy busy)).next

-- The law: what every event that is done makes of the first item under way, or of a wait that is over.
abbrev pub EventsMake : Type 0
EventsMake = (w : World) (event : Event) → Makes w event (happens w event Done)

-- an event that was refused before anything happened changes nothing, and one whose input was lost changes no station
pub record Refuses (w : World) (event : Event) : Type 0 where
  pub nothing : happens w event Nothing ≡ w
  pub caller : (happens w event InputLost).caller ≡ w.caller
  pub answerer : (happens w event InputLost).answerer ≡ w.answerer

-- The law: an event that was refused before anything happened changes nothing, and one whose input was lost changes no station.
abbrev pub EventsRefuse : Type 0
EventsRefuse = (w : World) (event : Event) → Refuses w event
