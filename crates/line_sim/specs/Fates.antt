-- What fates make of the fields of a driven call.
use Rattle.std.specs.Prelude.{◌≡◌, ◌≢◌, ℕ, suc, ◌<◌, ◌≤◌, Bool, true, false, cond, ◌&&◌, not, is_some, List, [], ◌∷◌, ◌++◌}
use Rattle.std.specs.Prelude.{Option, Some, None, Result, Ok, Err}
use Rattle.signals.specs.declared.params.Caps.{Caps}
use Rattle.signals.specs.declared.params.Wish.{Wish}
use Rattle.signals.specs.Signals.{PlainSignal}
use Rattle.stations.specs.AnswererStep.{Answerer, answerer_step}
use Rattle.stations.specs.CallerFields.{AreCallable}
use Rattle.stations.specs.CallerStep.{Caller, present_block}
use Rattle.stations.specs.Inputs.{PlainItem, listens, trains}
use Rattle.stations.specs.Layers.{Document}
use Rattle.stations.specs.declared.turn.End.{End}
use Rattle.stations.specs.declared.turn.Turn.TheVariants.{Rnr as SendRnr}
use Rattle.line_sim.specs.Driving.{Driven, Ends, Fate, Patience, dis_kept, drive, drives, is_over, is_over_at, most_steps, new_driven}
use Rattle.line_sim.specs.Driving.{is_rnr_item, step_events, steps_made}
use Rattle.line_sim.specs.Driving.Fate.{comes, lost, spoiled}
use Rattle.line_sim.specs.BusyCalls.{sets}
use Rattle.line_sim.specs.Entries.{entries, head_kind, signal_kind}
use Rattle.line_sim.specs.Line.{World, Outcome, Done, happens, run}
use Rattle.line_sim.specs.Report.{all_done}
use Rattle.line_sim.specs.Represents.{Acts, IsUnheard, IsWorldFault, Shows}
use Rattle.line_sim.specs.Tolerance.{CanBear, IsBorne, bad_fates, spoiling_fates}
use Rattle.line_sim.specs.declared.call.Call.{Call}
use Rattle.line_sim.specs.declared.drive.Act.{Act}
use Rattle.line_sim.specs.declared.drive.Fate.{Fate as CallFate}
use Rattle.line_sim.specs.declared.drive.Fate.TheVariants.{Comes, Lost, Spoiled}
use Rattle.line_sim.specs.declared.drive.Patience.{Patience as CallPatience}
use Rattle.line_sim.specs.declared.drive.Step.{Step}
use Rattle.line_sim.specs.declared.event.Entry.{Entry}
use Rattle.line_sim.specs.declared.event.Event.{Event}
use Rattle.line_sim.specs.declared.event.Event.TheVariants.{AnswererT1, AnswererT2, Busy, CallerT5, CallerTimeout, DeliverToAnswerer}
use Rattle.line_sim.specs.declared.event.Event.TheVariants.{DeliverToCaller, LoseToAnswerer}
use Rattle.line_sim.specs.declared.event.Event.TheVariants.{LoseToCaller, Spoil}
use Rattle.line_sim.specs.declared.event.Kind.{Kind}
use Rattle.line_sim.specs.declared.event.Kind.TheVariants.{Mcf, Pps, Rnr, Rr}
use Rattle.line_sim.specs.declared.fault.WorldFault.{WorldFault}

-- the fields of a driven call: its call; how many DIS are sent in one wait and how many RNRs may come for a block; how many DIS were sent
-- in the present wait, and how many RNRs came for the present block
pub record DrivenFields : Type 0 where
  pub live : Call
  pub patience : CallPatience
  pub dis : ℕ
  pub rnrs : ℕ

-- the fate of the definition that one of the code is
abbrev pub plain_fate : CallFate → Fate
plain_fate Comes = comes
plain_fate Lost = lost
plain_fate Spoiled = spoiled

-- the patience of the definition that one of the code is
abbrev pub plain_patience : CallPatience → Patience
plain_patience patience = record { calls = patience.calls; busy = patience.busy }

-- the fields show a driven call of the definition: its world, the DIS of this wait, the RNRs of this block, and the patience
pub record ShowsDriven (v : DrivenFields) (p : Patience) (d : Driven) : Type 0 where
  pub world : Shows v.live d.world
  pub dis : d.dis ≡ v.dis
  pub rnrs : d.rnrs ≡ v.rnrs
  pub patience : p ≡ plain_patience v.patience

-- the step that comes next in a driven call
abbrev pub next_of : Patience → Driven → Driven
next_of p d = drives p d.world.to_answerer d.world.to_caller d

-- the events of the step that comes next in a driven call
abbrev pub events_of : Patience → Driven → List Event
events_of p d = step_events p d.world.to_answerer d.world.to_caller d

-- an RNR is first under way and no more may come: it is one too many
abbrev pub is_one_too_many : Bool → List PlainItem → Bool
is_one_too_many few [] = false
is_one_too_many few (item ∷ items) = is_rnr_item item && not few

-- A step takes a fate if something is under way; but an RNR too many takes none, since it is lost.
abbrev pub is_fate_due : Bool → List PlainItem → List PlainItem → Bool
is_fate_due few (item ∷ items) others = true
is_fate_due few [] (item ∷ others) = not (is_one_too_many few (item ∷ others))
is_fate_due few [] [] = false

-- the event before an act's own, if there is one
abbrev pub before_act : Option Event → List Event
before_act None = []
before_act (Some event) = event ∷ []

-- one more DIS if the event is the answerer's T2
abbrev pub dis_with : Event → ℕ → ℕ
dis_with AnswererT2 dis = suc dis
dis_with _ dis = dis

-- an item of this kind, PPS or RR, asks the answerer for more: a busy one answers RNR
abbrev pub asks_ready : Option Kind → Bool
asks_ready (Some Pps) = true
asks_ready (Some Rr) = true
asks_ready _ = false

-- The law: a PPS and an RR ask the answerer for more, and an item of another kind doesn't.
pub record AsksByKind : Type 0 where
  pub pps : asks_ready (Some Pps) ≡ true
  pub rr : asks_ready (Some Rr) ≡ true
  pub others : (kind : Kind) → kind ≢ Pps → kind ≢ Rr → asks_ready (Some kind) ≡ false
  pub none : asks_ready None ≡ false

-- an answerer says RNR only to an item of a kind that asks it for more, and never to a training check
pub record SaysRnrIfAsked (s : Answerer) : Type 0 where
  pub signal : (signal : PlainSignal) → (answerer_step s (listens signal)).turn ≡ SendRnr → asks_ready (signal_kind signal) ≡ true
  pub check : (octets : List ℕ) → (answerer_step s (trains octets)).turn ≢ SendRnr

-- The law: the same, of each answerer.
abbrev pub RnrIsAsked : Type 0
RnrIsAsked = (s : Answerer) → SaysRnrIfAsked s

-- the caller is sending a block, which an MCF would confirm: it has sent the block's first burst and hasn't ended
abbrev pub is_sending : Caller → Bool
is_sending c = is_some (present_block c)

-- the RNRs for a block after an item came to the caller that is sending it, or isn't: one more; or those for the next one
abbrev pub rnrs_heard : Option Kind → Bool → ℕ → ℕ
rnrs_heard (Some Rnr) sending rnrs = suc rnrs
rnrs_heard (Some Mcf) true rnrs = 0
rnrs_heard _ sending rnrs = rnrs

-- the RNRs for a block after an event, by the first item under way to the caller
abbrev pub rnrs_after : Event → Option Kind → Bool → ℕ → ℕ
rnrs_after DeliverToCaller kind sending rnrs = rnrs_heard kind sending rnrs
rnrs_after _ kind sending rnrs = rnrs

-- an act is the next step: its events, and what it makes of the counts, are those of the definition
pub record Follows (p : Patience) (items others : List PlainItem) (d : Driven) (act : Act) : Type 0 where
  pub goes_on : is_over_at items others d.world.caller.ending d.world.answerer.ending ≡ false
  pub events : before_act act.before ++ act.event ∷ [] ≡ step_events p items others d
  pub dis : (drives p items others d).dis ≡ dis_kept d.world.caller.state (dis_with act.event d.dis)
  pub rnrs : (drives p items others d).rnrs ≡ rnrs_after act.event (head_kind others) (is_sending d.world.caller) d.rnrs

-- what comes next, or the call is over
abbrev pub ComesNext : Patience → List PlainItem → List PlainItem → Driven → Option Act → Type 0
ComesNext p items others d None = is_over_at items others d.world.caller.ending d.world.answerer.ending ≡ true
ComesNext p items others d (Some act) = Follows p items others d act

-- no station hears of the event before an act's own, if there is one
abbrev pub IsUnheardIf : Option Event → Type 0
IsUnheardIf None = Unit {0}
IsUnheardIf (Some event) = IsUnheard event

-- no station hears of the event before an act's own; a DIS is sent only if few were, and an RNR comes only if few came
pub record IsPossible (few_dis few_rnrs : Bool) (kind : Option Kind) (act : Act) : Type 0 where
  pub before : IsUnheardIf act.before
  pub dis : act.event ≡ AnswererT2 → few_dis ≡ true
  pub rnrs : act.event ≡ DeliverToCaller → kind ≡ Some Rnr → few_rnrs ≡ true

-- what comes next is possible, or the call is over
abbrev pub MayAct : Bool → Bool → Option Kind → Option Act → Type 0
MayAct few_dis few_rnrs kind None = Unit {0}
MayAct few_dis few_rnrs kind (Some act) = IsPossible few_dis few_rnrs kind act

-- an act that is one event alone
abbrev pub plainly : Event → Act
plainly event = record { before = None; event = event }

-- what is first under way to the answerer meets its fate; it may be a training check
abbrev pub act_to_answerer : CallFate → Bool → Act
act_to_answerer Comes check = plainly DeliverToAnswerer
act_to_answerer Lost check = plainly LoseToAnswerer
act_to_answerer Spoiled true = record { before = Some Spoil; event = DeliverToAnswerer }
act_to_answerer Spoiled false = plainly LoseToAnswerer

-- what is first under way to the caller meets its fate; an RNR too many is lost, and the long wait is over
abbrev pub act_to_caller : Bool → CallFate → Act
act_to_caller true fate = record { before = Some LoseToCaller; event = CallerT5 }
act_to_caller false Comes = plainly DeliverToCaller
act_to_caller false Lost = plainly LoseToCaller
act_to_caller false Spoiled = plainly LoseToCaller

-- if nothing is under way, the wait that is over, if anybody waits: the caller's while it runs, or the answerer's if a DIS is due
abbrev pub act_waiting : Option End → Option End → Bool → Option Act
act_waiting None ending due = Some (plainly (cond due AnswererT2 CallerTimeout))
act_waiting (Some why) None due = Some (plainly AnswererT1)
act_waiting (Some why) (Some other) due = None

-- an event was done, or there was none to do
abbrev pub ActsIf : Option Event → Call → Call → Option Entry → Type 0
ActsIf (Some event) old new (Some entry) = Acts old new event entry × (entry.refused ≡ false)
ActsIf None old new None = new ≡ old
ActsIf _ old new _ = ⊥

-- an entry after that of the event before it, if there is one
abbrev pub and_entry : Option Entry → Entry → List Entry
and_entry None entry = entry ∷ []
and_entry (Some first) entry = first ∷ entry ∷ []

-- the entries of a step
abbrev pub entries_of : Step → List Entry
entries_of step = and_entry step.before step.entry

-- A step of a driven call was made: it is the events of `step_events`, which lead to the next step's world when all of each is done; a
-- growth may have been refused in the last of them alone. The entries are theirs, and if none is marked the fields show the next step.
pub record MakesStep (p : Patience) (new : DrivenFields) (d : Driven) (step : Step) : Type 0 where
  pub goes_on : is_over d ≡ false
  pub before : List Event
  pub event : Event
  pub events : before ++ event ∷ [] ≡ events_of p d
  pub leads : run (all_done (before ++ event ∷ [])) d.world ≡ (next_of p d).world
  pub outcome : Outcome
  pub shows : Shows new.live (run (all_done before ++ (event, outcome) ∷ []) d.world)
  pub noted : entries_of step ≡ entries (all_done before ++ (event, outcome) ∷ []) d.world
  pub done : step.entry.refused ≡ false → (outcome ≡ Done) × ShowsDriven new p (next_of p d)
  pub marked : step.entry.refused ≡ true → outcome ≢ Done

-- a step of a driven call was made, or the call is over and nothing has changed
abbrev pub Steps : Patience → DrivenFields → DrivenFields → Driven → Option Step → Type 0
Steps p old new d None = (is_over d ≡ true) × (new ≡ old)
Steps p old new d (Some step) = MakesStep p new d step

-- a growth was refused: `made` steps were made, and of the next one the events up to the refused one
pub record Broken (p : Patience) (new : DrivenFields) (d : Driven) (most : ℕ) : Type 0 where
  pub made : ℕ
  pub few : made < most
  pub goes_on : is_over (drive made p d) ≡ false
  pub before : List Event
  pub event : Event
  pub events : before ++ event ∷ [] ≡ events_of p (drive made p d)
  pub leads : run (all_done (before ++ event ∷ [])) (drive made p d).world ≡ (next_of p (drive made p d)).world
  pub outcome : Outcome
  pub refused : outcome ≢ Done
  pub shows : Shows new.live (run (all_done before ++ (event, outcome) ∷ []) (drive made p d).world)

-- at most `most` steps of a driven call were made, and their number is returned; or the steps and events before a refused one
abbrev pub DrivesAll : {E : Type 0} → Patience → DrivenFields → Driven → ℕ → Result ℕ E → Type 0
DrivesAll p new d most (Ok number) = ShowsDriven new p (drive most p d) × (number ≡ steps_made most p d)
DrivesAll p new d most (Err refusal) = Broken p new d most

-- A call that is driven from its start ends as `DrivenCallsEnd` says, whatever the fates.
abbrev pub EndsDriven : DrivenFields → List Fate → ℕ → ℕ → Type 0
EndsDriven old fates most number =
    (document : Document) (wish : Wish) (caps : Caps) (p : Patience) → ShowsDriven old p (new_driven document wish caps fates) →
    1 ≤ p.calls →
    Ends p most number document (drive most p (new_driven document wish caps fates))

-- A call that is driven from its start bears two losses as `AnyTwoLossesAreBorne` says: if both stations agree on each page, each code fits
-- a call and at least three DIS are sent in a wait, it ends normally with all pages stored and confirmed.
abbrev pub BearsTwo : DrivenFields → DrivenFields → List Fate → ℕ → Type 0
BearsTwo old new fates most =
    (document : Document) (wish : Wish) (caps : Caps) (p : Patience) → ShowsDriven old p (new_driven document wish caps fates) →
    CanBear document wish caps p (spoiling_fates fates) → bad_fates fates ≤ 2 → most_steps p document < most →
    (w : World) × Shows new.live w × IsBorne document w

-- The answerer of a driven call was set busy or ready. The entry is that event's; if it isn't marked, the fields show the call that is set,
-- else a growth was refused.
pub record SetsBusy (p : Patience) (busy : Bool) (new : DrivenFields) (d : Driven) (entry : Entry) : Type 0 where
  pub outcome : Outcome
  pub shows : Shows new.live (happens d.world (Busy busy) outcome)
  pub noted : entry ∷ [] ≡ entries ((Busy busy, outcome) ∷ []) d.world
  pub done : entry.refused ≡ false → (outcome ≡ Done) × ShowsDriven new p (sets (Some busy) d)
  pub marked : entry.refused ≡ true → outcome ≢ Done

-- the start of a driven call, unless memory is refused or a page's width isn't callable: one DIS is under way
abbrev pub NewDriven : Document → Wish → Caps → CallPatience → Result DrivenFields WorldFault → Type 0
NewDriven document wish caps patience (Ok v) =
    AreCallable document × ((fates : List Fate) → ShowsDriven v (plain_patience patience) (new_driven document wish caps fates))
NewDriven document wish caps patience (Err fault) = IsWorldFault document fault
