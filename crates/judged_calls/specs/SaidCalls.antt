-- What a tap on the line sees of a run of the two stations, and the law that none of it breaks a rule, for one rule.
use Rattle.std.specs.Prelude.{◌≡◌, false, true, List, [], ◌∷◌, Option, Some, None}
use Rattle.signals.specs.Signals.{dis}
use Rattle.signals.specs.declared.params.Caps.{Caps}
use Rattle.signals.specs.declared.params.Wish.{Wish}
use Rattle.signals.specs.declared.signal.Side.{Side}
use Rattle.signals.specs.declared.signal.Side.TheVariants.{Caller as CallerSide, Answerer as AnswererSide}
use Rattle.stations.specs.Inputs.{CallerInput, AnswererInput, PlainItem, framed, checked}
use Rattle.stations.specs.Laws.{Each}
use Rattle.stations.specs.Layers.{Document, IsFullPage}
use Rattle.stations.specs.CallerStep.{Caller, caller_step, caller_items}
use Rattle.stations.specs.AnswererStep.{Answerer, answerer_step, answerer_items}
use Rattle.line_sim.specs.Entries.{input_to_caller, input_to_answerer, unless_lost}
use Rattle.line_sim.specs.Line.{World, Outcome, Done, Nothing, sent, happens, new_world}
use Rattle.line_sim.specs.declared.event.Event.{Event}
use Rattle.referee.specs.History.{PlainSaid}
use Rattle.referee.specs.Rules.{breaks, is_clean}
use Rattle.referee.specs.declared.rule.Rule.{Rule}

-- frames among items are said by a station, after what was said before; the latest comes first, and a training check is no frame
abbrev pub and_said : Side → List PlainItem → List PlainSaid → List PlainSaid
and_said side [] before = before
and_said side (framed signal ∷ items) before = and_said side items (record { by = side; signal = signal } ∷ before)
and_said side (checked octets ∷ items) before = and_said side items before

-- what the caller says to an input
abbrev pub caller_speaks : Caller → Outcome → CallerInput → List PlainSaid → List PlainSaid
caller_speaks c outcome input before =
    let answer = caller_step c input in and_said CallerSide (sent outcome (caller_items answer.next answer.turn)) before

-- what the answerer says to an input
abbrev pub answerer_speaks : Answerer → Outcome → AnswererInput → List PlainSaid → List PlainSaid
answerer_speaks s outcome input before =
    let answer = answerer_step s input in and_said AnswererSide (sent outcome (answerer_items answer.next answer.turn)) before

-- what a station says to an input, of which at most one is there
abbrev pub speaks : World → Outcome → Option CallerInput → Option AnswererInput → List PlainSaid → List PlainSaid
speaks w outcome (Some input) _ before = caller_speaks w.caller outcome input before
speaks w outcome None (Some input) before = answerer_speaks w.answerer outcome input before
speaks w outcome None None before = before

-- what is said to an event
abbrev pub event_speaks : World → Event → Outcome → List PlainSaid → List PlainSaid
event_speaks w event Nothing before = before
event_speaks w event outcome before =
    speaks w outcome (unless_lost outcome (input_to_caller w event)) (unless_lost outcome (input_to_answerer w event)) before

-- what is said in a run, after what was said before
abbrev pub said_in : List (Event × Outcome) → World → List PlainSaid → List PlainSaid
said_in [] w before = before
said_in (step ∷ steps) w before = said_in steps (happens w step.0 step.1) (event_speaks w step.0 step.1 before)

-- what is said in a call: the answerer's DIS first
abbrev pub call_said : Document → Wish → Caps → List (Event × Outcome) → List PlainSaid
call_said document wish caps steps =
    said_in steps (new_world document wish caps) (record { by = AnswererSide; signal = dis caps } ∷ [])

-- no frame of what was said breaks one rule
abbrev pub Keeps : Rule → List PlainSaid → Type 0
Keeps rule [] = Unit {0}
Keeps rule (said ∷ before) = (breaks rule said before ≡ false) × Keeps rule before

-- law for one rule: no frame of a call of the two stations breaks it, whatever is lost, spoiled or refused
abbrev pub RuleIsKept : Rule → Type 0
RuleIsKept rule = (document : Document) (wish : Wish) (caps : Caps) (steps : List (Event × Outcome)) → Keeps rule (call_said document wish caps steps)

-- the same for documents whose pages have rows, all of one width, 20,000 at most
abbrev pub RuleIsKeptOfPages : Rule → Type 0
RuleIsKeptOfPages rule =
    (document : Document) (wish : Wish) (caps : Caps) (steps : List (Event × Outcome)) → Each IsFullPage document →
    Keeps rule (call_said document wish caps steps)

-- an event of which all was done: no growth was refused
abbrev pub IsWhole : Event × Outcome → Type 0
IsWhole step = step.1 ≡ Done

-- The same, where no growth is refused. A caller whose burst is cut short for want of memory counts frames that it never sent.
abbrev pub RuleIsKeptWithMemory : Rule → Type 0
RuleIsKeptWithMemory rule =
    (document : Document) (wish : Wish) (caps : Caps) (steps : List (Event × Outcome)) → Each IsFullPage document → Each IsWhole steps →
    Keeps rule (call_said document wish caps steps)

-- The law: no frame of a call of the two stations breaks any rule, whatever the line loses or spoils, whichever timers run out and however
-- busy the answerer is, where no growth is refused.
abbrev pub NoRuleIsBroken : Type 0
NoRuleIsBroken =
    (document : Document) (wish : Wish) (caps : Caps) (steps : List (Event × Outcome)) → Each IsFullPage document → Each IsWhole steps →
    is_clean (call_said document wish caps steps) ≡ true
