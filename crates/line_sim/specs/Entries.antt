-- What the transcript shows of each event, and of a whole run.
use Rattle.std.specs.Prelude.{ℕ, suc, Bool, true, false, List, [], ◌∷◌, Option, Some, None}
use Rattle.signals.specs.Signals.{PlainSignal, dis, dcs, cfr, ftt, fcd, rcp, pps, ppr, mcf, rnr, rr, dcn, other}
use Rattle.stations.specs.Inputs.{CallerInput, hears, timeout, t5, AnswererInput, listens, trains, t2, t1, is_busy, PlainItem, framed}
use Rattle.stations.specs.Inputs.{checked}
use Rattle.stations.specs.CallerStep.{Caller, caller_step, caller_items}
use Rattle.stations.specs.AnswererStep.{Answerer, answerer_step}
use Rattle.stations.specs.declared.turn.Turn.{Turn}
use Rattle.stations.specs.declared.turn.Turn.TheVariants.{Silent, Burst}
use Rattle.line_sim.specs.declared.event.Entry.{Entry}
use Rattle.line_sim.specs.declared.event.Event.{Event}
use Rattle.line_sim.specs.declared.event.Event.TheVariants.{DeliverToAnswerer, DeliverToCaller, LoseToAnswerer, LoseToCaller, CallerTimeout}
use Rattle.line_sim.specs.declared.event.Event.TheVariants.{CallerT5, AnswererT1, AnswererT2, Busy}
use Rattle.line_sim.specs.declared.event.Fields.{Fields}
use Rattle.line_sim.specs.declared.event.Fields.TheVariants as field
use Rattle.line_sim.specs.declared.event.Kind.{Kind}
use Rattle.line_sim.specs.declared.event.Kind.TheVariants.{Dis, Dcs, Training, Cfr, Ftt, Fcd, Rcp, Pps, Mcf, Ppr, Rnr, Rr, Dcn}
use Rattle.line_sim.specs.Line.{World, Outcome, happens}
use Rattle.line_sim.specs.Line.Outcome.{Done, Nothing, InputLost}

-- the kind of a signal, as the transcript shows it; None for a signal that isn't known, which no station sends
abbrev pub signal_kind : PlainSignal → Option Kind
signal_kind (dis caps) = Some Dis
signal_kind (dcs params) = Some Dcs
signal_kind cfr = Some Cfr
signal_kind ftt = Some Ftt
signal_kind (fcd number octets) = Some (Fcd number)
signal_kind rcp = Some Rcp
signal_kind (pps ends page block last) = Some Pps
signal_kind (ppr map) = Some Ppr
signal_kind mcf = Some Mcf
signal_kind rnr = Some Rnr
signal_kind rr = Some Rr
signal_kind dcn = Some Dcn
signal_kind (other octet) = None

-- the kind of an item: that of its signal, or Training for a training check
abbrev pub kind_of : PlainItem → Option Kind
kind_of (framed signal) = signal_kind signal
kind_of (checked octets) = Some Training

-- the kind of the first item under way
abbrev pub head_kind : List PlainItem → Option Kind
head_kind [] = None
head_kind (item ∷ items) = kind_of item

-- the item that an event delivers or loses
abbrev pub item_of : World → Event → Option Kind
item_of w DeliverToAnswerer = head_kind w.to_answerer
item_of w LoseToAnswerer = head_kind w.to_answerer
item_of w DeliverToCaller = head_kind w.to_caller
item_of w LoseToCaller = head_kind w.to_caller
item_of w _ = None

-- what the information field of a signal says: of a DIS, a DCS, a PPS or a PPR
abbrev pub signal_fields : PlainSignal → Fields
signal_fields (dis caps) = field.Dis caps
signal_fields (dcs params) = field.Dcs params
signal_fields (pps ends page block last) = field.Pps ends page block last
signal_fields (ppr map) = field.Ppr map
signal_fields _ = field.Nothing

-- what the information field of an item's frame says; a training check has none
abbrev pub fields_of : PlainItem → Fields
fields_of (framed signal) = signal_fields signal
fields_of (checked octets) = field.Nothing

-- what the information field of the first item under way says
abbrev pub head_fields : List PlainItem → Fields
head_fields [] = field.Nothing
head_fields (item ∷ items) = fields_of item

-- what the information field says of the item that an event delivers or loses
abbrev pub event_fields : World → Event → Fields
event_fields w DeliverToAnswerer = head_fields w.to_answerer
event_fields w LoseToAnswerer = head_fields w.to_answerer
event_fields w DeliverToCaller = head_fields w.to_caller
event_fields w LoseToCaller = head_fields w.to_caller
event_fields w _ = field.Nothing

-- the input that a first item is to the answerer
abbrev pub listened : List PlainItem → Option AnswererInput
listened [] = None
listened (framed signal ∷ items) = Some (listens signal)
listened (checked octets ∷ items) = Some (trains octets)

-- the input that a first item is to the caller; a training check isn't one
abbrev pub heard : List PlainItem → Option CallerInput
heard [] = None
heard (framed signal ∷ items) = Some (hears signal)
heard (checked octets ∷ items) = None

-- the input that an event is to the answerer, if it is one
abbrev pub input_to_answerer : World → Event → Option AnswererInput
input_to_answerer w DeliverToAnswerer = listened w.to_answerer
input_to_answerer w AnswererT1 = Some t1
input_to_answerer w AnswererT2 = Some t2
input_to_answerer w (Busy busy) = Some (is_busy busy)
input_to_answerer w _ = None

-- the input that an event is to the caller, if it is one
abbrev pub input_to_caller : World → Event → Option CallerInput
input_to_caller w DeliverToCaller = heard w.to_caller
input_to_caller w CallerTimeout = Some timeout
input_to_caller w CallerT5 = Some t5
input_to_caller w _ = None

-- the input, unless the event's outcome is that it was lost
abbrev pub unless_lost : {A : Type 0} → Outcome → Option A → Option A
unless_lost InputLost input = None
unless_lost _ input = input

-- a turn, and the number of its FCDs
pub record Said : Type 0 where
  pub turn : Turn
  pub fcds : ℕ

-- how many items are FCDs
abbrev pub count_fcds : List PlainItem → ℕ
count_fcds [] = 0
count_fcds (framed (fcd number octets) ∷ items) = suc (count_fcds items)
count_fcds (item ∷ items) = count_fcds items

-- the FCDs of a burst; any other turn has none
abbrev pub fcds_in : Turn → List PlainItem → ℕ
fcds_in (Burst map) items = count_fcds items
fcds_in _ items = 0

-- a turn with its items, of which a burst's FCDs are counted
abbrev pub caller_said : Turn → List PlainItem → Said
caller_said turn items = record { turn = turn; fcds = fcds_in turn items }

-- what a station says by a turn that is no burst: it has no FCDs
abbrev pub says : Turn → Said
says turn = record { turn = turn; fcds = 0 }

-- what the caller says to an input
abbrev pub caller_says : Caller → CallerInput → Said
caller_says c input = let answer = caller_step c input in caller_said answer.turn (caller_items answer.next answer.turn)

-- what the answerer says to an input; it sends no burst
abbrev pub answerer_says : Answerer → AnswererInput → Said
answerer_says s input = says (answerer_step s input).turn

-- what the station says that an event acts on: of the two inputs at most one is there
abbrev pub station_says : World → Option CallerInput → Option AnswererInput → Said
station_says w (Some input) _ = caller_says w.caller input
station_says w None (Some input) = answerer_says w.answerer input
station_says w None None = says Silent

-- what is said to an event with an outcome
abbrev pub event_says : World → Event → Outcome → Said
event_says w event outcome = station_says w (unless_lost outcome (input_to_caller w event))
    (unless_lost outcome (input_to_answerer w event))

-- a growth was refused
abbrev pub is_refused : Outcome → Bool
is_refused Done = false
is_refused _ = true

-- The transcript's entry of an event: the event, the item that it delivers or loses, what that item's information field says (of a DIS, a
-- DCS, a PPS or a PPR), the turn of the station's step, the number of its FCDs, and a mark if a growth was refused. An event that found no
-- room for its entry has none.
abbrev pub entry_of : World → Event → Outcome → Option Entry
entry_of w event Nothing = None
entry_of w event outcome =
    let said = event_says w event outcome in
    Some (record {
      event = event;
      item = item_of w event;
      fields = event_fields w event;
      turn = said.turn;
      fcds = said.fcds;
      refused = is_refused outcome;
    })

-- an entry, if there is one, and the entries after it
abbrev pub and_entries : Option Entry → List Entry → List Entry
and_entries None rest = rest
and_entries (Some entry) rest = entry ∷ rest

-- the entries of a run, one for each event that found room for it, in order
abbrev pub entries : List (Event × Outcome) → World → List Entry
entries [] w = []
entries (step ∷ steps) w = and_entries (entry_of w step.0 step.1) (entries steps (happens w step.0 step.1))

-- one mark more, or none
abbrev pub one_mark : Bool → ℕ → ℕ
one_mark true count = suc count
one_mark false count = count

-- how many entries show a refused growth
abbrev pub marks : List Entry → ℕ
marks [] = 0
marks (entry ∷ rest) = one_mark entry.refused (marks rest)
