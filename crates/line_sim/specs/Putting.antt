-- What an event puts under way.
use Rattle.std.specs.Prelude.{ℕ, ◌≡◌, Bool, true, false, List, [], drop, take, length, Option, Some, None}
use Rattle.signals.specs.declared.signal.Side.{Side}
use Rattle.signals.specs.declared.signal.Side.TheVariants.{Caller as TheCaller, Answerer as TheAnswerer}
use Rattle.stations.specs.AnswererStep.{Answerer, answerer_step, answerer_items}
use Rattle.stations.specs.CallerStep.{Caller, caller_step, caller_items}
use Rattle.stations.specs.Inputs.{PlainItem, CallerInput, AnswererInput}
use Rattle.line_sim.specs.Entries.{input_to_answerer, input_to_caller}
use Rattle.line_sim.specs.Line.{World}
use Rattle.line_sim.specs.Octets.{under_way_to}
use Rattle.line_sim.specs.Represents.{Shows}
use Rattle.line_sim.specs.declared.call.Call.{Call}
use Rattle.line_sim.specs.declared.event.Event.{Event}

-- what the caller sends to an input: the items of its turn, and none without an input
abbrev pub caller_puts : Caller → Option CallerInput → List PlainItem
caller_puts c None = []
caller_puts c (Some input) = let answer = caller_step c input in caller_items answer.next answer.turn

-- what the answerer sends to an input: the items of its turn, and none without an input
abbrev pub answerer_puts : Answerer → Option AnswererInput → List PlainItem
answerer_puts s None = []
answerer_puts s (Some input) = let answer = answerer_step s input in answerer_items answer.next answer.turn

-- what the other station sends to a station at an event, which is an input to one of them at most
abbrev pub puts_to : Side → World → Event → List PlainItem
puts_to TheCaller w event = answerer_puts w.answerer (input_to_answerer w event)
puts_to TheAnswerer w event = caller_puts w.caller (input_to_caller w event)

-- the items under way to a station that come after as many as there were before
abbrev pub put_to : Side → Call → Call → List PlainItem
put_to to old new = drop (length (under_way_to to old)) (under_way_to to new)

-- all of the items were put under way; or, if a growth was refused, the first of them or none
abbrev pub IsPut : Bool → List PlainItem → List PlainItem → Type 0
IsPut false put items = put ≡ items
IsPut true put items = (made : ℕ) × (put ≡ take made items)

-- What an event has put under way to each station. The items behind as many as there were before are all that the other station sends at
-- the event or, if a growth was refused, the first of them; whichever world the fields show.
abbrev pub Puts : Call → Call → Event → Bool → Type 0
Puts old new event refused = (to : Side) (w : World) → Shows old w → IsPut refused (put_to to old new) (puts_to to w event)
