-- The half-duplex line between a caller and an answerer, and what may happen on it.
use Rattle.std.specs.Prelude.{ℕ, List, [], ◌∷◌, ◌++◌, take, map}
use Rattle.signals.specs.Signals.{dis}
use Rattle.signals.specs.declared.params.Caps.{Caps}
use Rattle.signals.specs.declared.params.Wish.{Wish}
use Rattle.stations.specs.Layers.{Document}
use Rattle.stations.specs.Inputs.{CallerInput, hears, timeout, t5, AnswererInput, listens, trains, t2, t1, is_busy, PlainItem, framed}
use Rattle.stations.specs.Inputs.{checked}
use Rattle.stations.specs.CallerStep.{Caller, caller_step, new_caller, caller_items, no_caps, no_params}
use Rattle.stations.specs.AnswererStep.{Answerer, answerer_step, new_answerer, answerer_items}
use Rattle.stations.specs.declared.turn.Turn.{Turn}
use Rattle.stations.specs.declared.turn.Turn.TheVariants.{Silent}
use Rattle.line_sim.specs.declared.event.Event.{Event}
use Rattle.line_sim.specs.declared.event.Event.TheVariants.{DeliverToAnswerer, DeliverToCaller, LoseToAnswerer, LoseToCaller, Spoil}
use Rattle.line_sim.specs.declared.event.Event.TheVariants.{CallerTimeout, CallerT5, AnswererT1, AnswererT2, Busy}

-- both stations, and the items under way to each, in the order in which they were sent
pub record World : Type 0 where
  pub caller : Caller
  pub answerer : Answerer
  pub to_answerer : List PlainItem
  pub to_caller : List PlainItem

-- What became of an event: all of it was done; or a growth was refused, and nothing at all happened, or the input was lost before the
-- station's step, or only the first few items of the turn were sent. Refused memory isn't a choice of who reads a clause: the clauses say
-- that an event has an outcome.
pub data Outcome : Type 0 where
  Done Nothing InputLost : Outcome
  Cut : (made : ℕ) → Outcome

-- the items of a turn that are sent
abbrev pub sent : Outcome → List PlainItem → List PlainItem
sent (Cut made) items = take made items
sent _ items = items

-- The caller has taken its step and sends the items of its turn. A turn that isn't silent drops what is under way to the caller, and puts
-- its items behind those under way to the answerer.
abbrev pub caller_sends : Turn → World → Caller → List PlainItem → World
caller_sends Silent w next items = record w { caller = next }
caller_sends _ w next items = record { caller = next; answerer = w.answerer; to_answerer = w.to_answerer ++ items; to_caller = [] }

-- The answerer has taken its step and sends the items of its turn. A turn that isn't silent drops what is under way to the answerer, and
-- puts its items behind those under way to the caller.
abbrev pub answerer_sends : Turn → World → Answerer → List PlainItem → World
answerer_sends Silent w next items = record w { answerer = next }
answerer_sends _ w next items = record { caller = w.caller; answerer = next; to_answerer = []; to_caller = w.to_caller ++ items }

-- the caller has an input and answers it
abbrev pub caller_acts : World → Outcome → CallerInput → World
caller_acts w outcome input =
    let answer = caller_step w.caller input in
    caller_sends answer.turn w answer.next (sent outcome (caller_items answer.next answer.turn))

-- the answerer has an input and answers it
abbrev pub answerer_acts : World → Outcome → AnswererInput → World
answerer_acts w outcome input =
    let answer = answerer_step w.answerer input in
    answerer_sends answer.turn w answer.next (sent outcome (answerer_items answer.next answer.turn))

-- an item comes to the answerer
abbrev pub comes_to_answerer : World → Outcome → PlainItem → World
comes_to_answerer w outcome (framed signal) = answerer_acts w outcome (listens signal)
comes_to_answerer w outcome (checked octets) = answerer_acts w outcome (trains octets)

-- an item comes to the caller, which takes no training check
abbrev pub comes_to_caller : World → Outcome → PlainItem → World
comes_to_caller w outcome (framed signal) = caller_acts w outcome (hears signal)
comes_to_caller w outcome (checked octets) = w

-- the head of the list to the answerer is taken away, and comes to it unless it is lost
abbrev pub delivers_to_answerer : World → Outcome → List PlainItem → World
delivers_to_answerer w outcome [] = w
delivers_to_answerer w InputLost (item ∷ items) = record w { to_answerer = items }
delivers_to_answerer w outcome (item ∷ items) = comes_to_answerer (record w { to_answerer = items }) outcome item

-- the first item under way to the caller is taken away, and comes to it unless its input is lost
abbrev pub delivers_to_caller : World → Outcome → List PlainItem → World
delivers_to_caller w outcome [] = w
delivers_to_caller w InputLost (item ∷ items) = record w { to_caller = items }
delivers_to_caller w outcome (item ∷ items) = comes_to_caller (record w { to_caller = items }) outcome item

-- a list without its head
abbrev pub after_first : List PlainItem → List PlainItem
after_first [] = []
after_first (item ∷ items) = items

-- a training check at the head has only octets FF
abbrev pub spoiled : List PlainItem → List PlainItem
spoiled (checked octets ∷ items) = checked (map (λ octet. 255) octets) ∷ items
spoiled items = items

-- a timer of the caller
abbrev pub caller_timer : World → Outcome → CallerInput → World
caller_timer w InputLost input = w
caller_timer w outcome input = caller_acts w outcome input

-- the answerer's timer, or that it is busy or ready
abbrev pub answerer_timer : World → Outcome → AnswererInput → World
answerer_timer w InputLost input = w
answerer_timer w outcome input = answerer_acts w outcome input

-- what an event does if it wasn't refused before anything happened
abbrev pub acts : World → Event → Outcome → World
acts w DeliverToAnswerer outcome = delivers_to_answerer w outcome w.to_answerer
acts w DeliverToCaller outcome = delivers_to_caller w outcome w.to_caller
acts w LoseToAnswerer outcome = record w { to_answerer = after_first w.to_answerer }
acts w LoseToCaller outcome = record w { to_caller = after_first w.to_caller }
acts w Spoil outcome = record w { to_answerer = spoiled w.to_answerer }
acts w CallerTimeout outcome = caller_timer w outcome timeout
acts w CallerT5 outcome = caller_timer w outcome t5
acts w AnswererT1 outcome = answerer_timer w outcome t1
acts w AnswererT2 outcome = answerer_timer w outcome t2
acts w (Busy busy) outcome = answerer_timer w outcome (is_busy busy)

-- The world after an event with an outcome. The first item under way to a station is delivered or lost, a training check that is first gets
-- octets FF, a station's timer runs out, or the answerer gets busy or ready. After `Nothing` the world is as it was.
abbrev pub happens : World → Event → Outcome → World
happens w event Nothing = w
happens w event outcome = acts w event outcome

-- a new world: the answerer's DIS is under way
abbrev pub new_world : Document → Wish → Caps → World
new_world document wish caps =
    record {
      caller = new_caller document wish no_caps no_params;
      answerer = new_answerer caps no_params;
      to_answerer = [];
      to_caller = framed (dis caps) ∷ [];
    }

-- the world after a whole run: events with their outcomes, one after the other
abbrev pub run : List (Event × Outcome) → World → World
run [] w = w
run (step ∷ steps) w = run steps (happens w step.0 step.1)
