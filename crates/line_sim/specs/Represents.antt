-- What the fields of a world represent, and what an event makes of them.
use Rattle.std.specs.Prelude.{◌≡◌, ◌≢◌, Bool, true, false, List, [], ◌∷◌, ◌++◌, Some, None, Result, Ok, Err}
use Rattle.signals.specs.declared.params.Caps.{Caps}
use Rattle.signals.specs.declared.params.Wish.{Wish}
use Rattle.stations.specs.AnswererStep.{answerer_items}
use Rattle.stations.specs.CallerStep.{Caller, caller_items}
use Rattle.stations.specs.Inputs.{PlainItem, CallerInput, timeout, t5, AnswererInput, t1, t2, is_busy}
use Rattle.stations.specs.Laws.{Each}
use Rattle.stations.specs.Layers.{Document, IsFullPage}
use Rattle.stations.specs.CallerFields.{Represents, AreCallable}
use Rattle.stations.specs.declared.turn.Turn.{Turn}
use Rattle.stations.specs.declared.turn.Turn.TheVariants.{Silent}
use Rattle.line_sim.specs.Entries.{Said, says, entry_of, entries, and_entries, caller_said, head_kind, head_fields, item_of, event_fields}
use Rattle.line_sim.specs.Headline.{CanBeWritten}
use Rattle.line_sim.specs.Line.{World, Outcome, Done, Nothing, Cut, sent, caller_sends, answerer_sends, happens, new_world, run}
use Rattle.line_sim.specs.PageMachine.{PageState, page_state}
use Rattle.line_sim.specs.declared.call.Call.{Call}
use Rattle.line_sim.specs.declared.event.Entry.{Entry}
use Rattle.line_sim.specs.declared.event.Event.{Event}
use Rattle.line_sim.specs.declared.event.Event.TheVariants.{LoseToAnswerer, LoseToCaller, Spoil, CallerTimeout, CallerT5, AnswererT1}
use Rattle.line_sim.specs.declared.event.Event.TheVariants.{AnswererT2, Busy}
use Rattle.line_sim.specs.declared.event.Fields.TheVariants as field
use Rattle.line_sim.specs.declared.event.Shown.{Shown}
use Rattle.line_sim.specs.declared.fault.WorldFault.{WorldFault}
use Rattle.line_sim.specs.declared.fault.WorldFault.TheVariants.{NoMemory, WidthNotCallable}

-- the fields of a call show a world of the definition: its caller, its answerer and what is under way
pub record Shows (v : Call) (w : World) : Type 0 where
  pub caller : Represents v.caller w.caller
  pub answerer : w.answerer ≡ v.answerer
  pub to_answerer : w.to_answerer ≡ v.to_answerer
  pub to_caller : w.to_caller ≡ v.to_caller

-- a transmission was whole, or a growth was refused and it was cut
abbrev pub IsSent : Bool → Outcome → Type 0
IsSent false Done = Unit {0}
IsSent true (Cut made) = Unit {0}
IsSent _ _ = ⊥

-- the caller's items of a turn are sent, or the first of them
abbrev pub CallerSends : Call → Call → Turn → Bool → Type 0
CallerSends old new turn refused =
    (outcome : Outcome) × IsSent refused outcome ×
    ((w : World) → Shows old w → Shows new (caller_sends turn w w.caller (sent outcome (caller_items w.caller turn))))

-- the answerer's items of a turn are sent, or the first of them
abbrev pub AnswererSends : Call → Call → Turn → Bool → Type 0
AnswererSends old new turn refused =
    (outcome : Outcome) × IsSent refused outcome ×
    ((w : World) → Shows old w → Shows new (answerer_sends turn w w.answerer (sent outcome (answerer_items w.answerer turn))))

-- a caller that the fields represent can write the items of a turn
abbrev pub CallerWrites : Call → Turn → Type 0
CallerWrites v turn = (t : Caller) × Represents v.caller t × Each CanBeWritten (caller_items t turn)

-- the answerer can write the items of a turn
abbrev pub AnswererWrites : Call → Turn → Type 0
AnswererWrites v turn = Each CanBeWritten (answerer_items v.answerer turn)

-- a caller that the fields represent can write the items of the turn that it returned, unless memory was refused
abbrev pub CallerMayAnswer : {E : Type 0} → Call → Result Turn E → Type 0
CallerMayAnswer v (Ok turn) = CallerWrites v turn
CallerMayAnswer v (Err refused) = Unit {0}

-- the answerer can write the items of the turn that it returned, unless memory was refused
abbrev pub AnswererMayAnswer : {E : Type 0} → Call → Result Turn E → Type 0
AnswererMayAnswer v (Ok turn) = AnswererWrites v turn
AnswererMayAnswer v (Err refused) = Unit {0}

-- no item is shown
abbrev pub none_shown : Shown
none_shown = record { item = None; fields = field.Nothing }

-- what is shown of the first item under way
abbrev pub head_shown : List PlainItem → Shown
head_shown items = record { item = head_kind items; fields = head_fields items }

-- what is shown of the item that an event delivers or loses
abbrev pub shown_of : World → Event → Shown
shown_of w event = record { item = item_of w event; fields = event_fields w event }

-- an entry of a turn
abbrev pub entry_with : Event → Shown → Said → Bool → Entry
entry_with event shown said refused = record {
  event = event;
  item = shown.item;
  fields = shown.fields;
  turn = said.turn;
  fcds = said.fcds;
  refused = refused;
}

-- the caller has answered an event and sends its turn; or memory was refused before
abbrev pub CallerAnswers : {E : Type 0} → Call → Call → Event → Shown → Result Turn E → Entry → Type 0
CallerAnswers old new event shown (Ok turn) entry =
    CallerSends old new turn entry.refused ×
    ((t : Caller) → Represents old.caller t → entry ≡ entry_with event shown (caller_said turn (caller_items t turn)) entry.refused)
CallerAnswers old new event shown (Err refused) entry = (new ≡ old) × (entry ≡ entry_with event shown (says Silent) true)

-- the answerer has answered an event and sends its turn; or memory was refused before
abbrev pub AnswererAnswers : {E : Type 0} → Call → Call → Event → Shown → Result Turn E → Entry → Type 0
AnswererAnswers old new event shown (Ok turn) entry = AnswererSends old new turn entry.refused ×
    (entry ≡ entry_with event shown (says turn) entry.refused)
AnswererAnswers old new event shown (Err refused) entry = (new ≡ old) × (entry ≡ entry_with event shown (says Silent) true)

-- the input that an event is to the caller that is no delivery
abbrev pub CallerTimer : Event → CallerInput → Type 0
CallerTimer CallerTimeout input = input ≡ timeout
CallerTimer CallerT5 input = input ≡ t5
CallerTimer _ input = ⊥

-- the input that an event is to the answerer that is no delivery
abbrev pub AnswererTimer : Event → AnswererInput → Type 0
AnswererTimer AnswererT1 input = input ≡ t1
AnswererTimer AnswererT2 input = input ≡ t2
AnswererTimer (Busy busy) input = input ≡ is_busy busy
AnswererTimer _ input = ⊥

-- what an event would send can be written
abbrev pub EventWrites : Call → Event → Type 0
EventWrites v event = (w : World) × Shows v w × Each CanBeWritten (happens w event Done).to_answerer ×
    Each CanBeWritten (happens w event Done).to_caller

-- An event of a call that keeps no transcript: it has one outcome, whichever world the fields show; the new fields show what the event
-- makes of that world, and the entry is the event's.
abbrev pub Acts : Call → Call → Event → Entry → Type 0
Acts old new event entry = (outcome : Outcome) ×
    ((w : World) → Shows old w → Shows new (happens w event outcome) × (entry_of w event outcome ≡ Some entry))

-- the fields of a world: its call and the entries of its transcript
pub record WorldFields : Type 0 where
  pub call : Call
  pub entries : List Entry

-- the state of the page machine that the stations of a call show
abbrev pub fields_state : Call → PageState
fields_state v = page_state v.answerer.pages v.caller.page v.caller.ending v.answerer.ending

-- whichever world the old fields show, the new ones show what the event with this outcome makes of it, and have its entry at the end
abbrev pub Becomes : WorldFields → WorldFields → Event → Outcome → Type 0
Becomes old new event outcome =
    (w : World) → Shows old.call w → Shows new.call (happens w event outcome) ×
    (new.entries ≡ old.entries ++ and_entries (entry_of w event outcome) [])

-- events with outcomes lead from a new world to the fields, and the entries are those of the events
pub record IsReached (v : WorldFields) : Type 0 where
  pub document : Document
  pub wish : Wish
  pub caps : Caps
  pub steps : List (Event × Outcome)
  pub full : Each IsFullPage document
  pub shows : Shows v.call (run steps (new_world document wish caps))
  pub noted : v.entries ≡ entries steps (new_world document wish caps)

-- What a refused event leaves. Without room for its entry nothing has changed; else there is one entry more, which is marked.
abbrev pub Leaves : Outcome → WorldFields → WorldFields → Type 0
Leaves Nothing old new = new ≡ old
Leaves _ old new = (entry : Entry) × (entry.refused ≡ true) × (new.entries ≡ old.entries ++ entry ∷ [])

-- an event that no station hears of: an item is lost, or a training check is spoiled
abbrev pub IsUnheard : Event → Type 0
IsUnheard LoseToAnswerer = Unit {0}
IsUnheard LoseToCaller = Unit {0}
IsUnheard Spoil = Unit {0}
IsUnheard _ = ⊥

-- A growth was refused. Whichever world the fields show, the event has one and the same outcome, which the entries show; an event that no
-- station hears of is refused only if there is no room for its entry.
abbrev pub BecomesSome : WorldFields → WorldFields → Event → Type 0
BecomesSome old new event =
    (outcome : Outcome) × (outcome ≢ Done) × Becomes old new event outcome × Leaves outcome old new × (IsUnheard event → outcome ≡ Nothing)

-- there is no world: memory was refused, or the width of a page isn't callable
abbrev pub IsWorldFault : Document → WorldFault → Type 0
IsWorldFault document NoMemory = AreCallable document
IsWorldFault document WidthNotCallable = ¬ AreCallable document

-- the start of a call, unless memory is refused or a page's width isn't callable
abbrev pub NewCall : Document → Wish → Caps → Result Call WorldFault → Type 0
NewCall document wish caps (Ok call) = AreCallable document × Shows call (new_world document wish caps)
NewCall document wish caps (Err fault) = IsWorldFault document fault

-- a new world, unless memory is refused or the width of a page isn't callable: the call's start, with no entry
abbrev pub NewWorld : Document → Wish → Caps → Result WorldFields WorldFault → Type 0
NewWorld document wish caps (Ok world) = AreCallable document × Shows world.call (new_world document wish caps) × (world.entries ≡ [])
NewWorld document wish caps (Err fault) = IsWorldFault document fault
