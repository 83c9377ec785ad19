-- A driven call: what is first under way meets its fate; if nothing is under way, a station's wait is over. Only the fates choose.
use Rattle.std.specs.Prelude.{◌≡◌, ℕ, zero, suc, ◌+◌, ◌*◌, ◌≤◌, ◌<◌, Bool, true, false, cond, ◌&&◌, not, nat_lt, nat_eq, List, [], ◌∷◌}
use Rattle.std.specs.Prelude.{length, Option, Some, None}
use Rattle.signals.specs.Signals.{rnr}
use Rattle.signals.specs.declared.params.Caps.{Caps}
use Rattle.signals.specs.declared.params.Wish.{Wish}
use Rattle.stations.specs.Layers.{Document, IsFullPage}
use Rattle.stations.specs.Laws.{Each}
use Rattle.line_sim.specs.Headline.{IsSafeWorld}
use Rattle.stations.specs.Inputs.{PlainItem, framed, checked}
use Rattle.stations.specs.CallerStep.{Caller}
use Rattle.stations.specs.Lasting.{groups_in, blocks_in}
use Rattle.stations.specs.declared.turn.CallerState.{CallerState}
use Rattle.stations.specs.declared.turn.CallerState.TheVariants.{WaitDis, WaitCfr, WaitBlock, WaitReady}
use Rattle.stations.specs.declared.turn.AnswererState.{AnswererState}
use Rattle.stations.specs.declared.turn.AnswererState.TheVariants.{PhaseB}
use Rattle.stations.specs.declared.turn.End.{End}
use Rattle.line_sim.specs.Line.{World, happens, new_world, run}
use Rattle.line_sim.specs.Line.Outcome.{Done}
use Rattle.line_sim.specs.Report.{all_done}
use Rattle.line_sim.specs.declared.event.Event.{Event}
use Rattle.line_sim.specs.declared.event.Event.TheVariants.{DeliverToAnswerer, DeliverToCaller, LoseToAnswerer, LoseToCaller, Spoil}
use Rattle.line_sim.specs.declared.event.Event.TheVariants.{CallerTimeout, CallerT5, AnswererT1, AnswererT2}

-- what becomes of what is under way: it comes, it is lost, or it is spoiled: a training check comes with octets FF, a frame is lost
pub data Fate : Type 0 where
  comes lost spoiled : Fate

-- how patient stations are: the answerer sends at most `calls` DIS before the caller's wait for one is over, and `busy` RNRs come for a
-- block before its long wait is
pub record Patience : Type 0 where
  pub calls : ℕ
  pub busy : ℕ

-- A driven call has no script. It has a world, how many DIS were sent since the caller began to wait for one, how many RNRs came for its
-- present block, and the fates of the next items; all items after those come.
pub record Driven : Type 0 where
  pub world : World
  pub dis : ℕ
  pub rnrs : ℕ
  pub fates : List Fate

-- the fate of the next item: the first of the list, and that it comes once the list is used up
abbrev pub first_fate : List Fate → Fate
first_fate [] = comes
first_fate (fate ∷ fates) = fate

-- the fates after the first one
abbrev pub later_fates : List Fate → List Fate
later_fates [] = []
later_fates (fate ∷ fates) = fates

-- what is first under way to the answerer meets its fate
abbrev pub meets_answerer : Fate → PlainItem → World → World
meets_answerer comes item w = happens w DeliverToAnswerer Done
meets_answerer lost item w = happens w LoseToAnswerer Done
meets_answerer spoiled (framed signal) w = happens w LoseToAnswerer Done
meets_answerer spoiled (checked octets) w = happens (happens w Spoil Done) DeliverToAnswerer Done

-- what is first under way to the caller meets its fate
abbrev pub meets_caller : Fate → World → World
meets_caller comes w = happens w DeliverToCaller Done
meets_caller lost w = happens w LoseToCaller Done
meets_caller spoiled w = happens w LoseToCaller Done

-- one more RNR, if it is one and comes
abbrev pub rnrs_with : Fate → PlainItem → ℕ → ℕ
rnrs_with comes (framed rnr) rnrs = suc rnrs
rnrs_with _ _ rnrs = rnrs

-- an item is an RNR
abbrev pub is_rnr_item : PlainItem → Bool
is_rnr_item (framed rnr) = true
is_rnr_item _ = false

-- a count is kept while what it counts for stays, and begins again
abbrev pub kept : ℕ → ℕ → ℕ → ℕ
kept old new count = cond (nat_eq old new) count 0

-- DIS count while the caller waits for one
abbrev pub dis_kept : CallerState → ℕ → ℕ
dis_kept WaitDis dis = dis
dis_kept WaitCfr dis = 0
dis_kept WaitBlock dis = 0
dis_kept WaitReady dis = 0

-- the call goes on with a world and counts
abbrev pub goes_to : Driven → World → ℕ → ℕ → List Fate → Driven
goes_to d w dis rnrs fates =
    record {
      world = w;
      dis = dis_kept d.world.caller.state dis;
      rnrs = kept d.world.caller.place w.caller.place rnrs;
      fates = fates;
    }

-- the answerer's T2 is due: the caller waits for a DIS, the answerer for a DCS, and not too many DIS were sent
abbrev pub dis_is_due : CallerState → AnswererState → Option End → Bool → Bool
dis_is_due WaitDis PhaseB None few = few
dis_is_due _ _ _ few = false

-- the caller hasn't ended, and nothing is under way
abbrev pub caller_waits : Bool → Driven → Driven
caller_waits true d = goes_to d (happens d.world AnswererT2 Done) (suc d.dis) d.rnrs d.fates
caller_waits false d = goes_to d (happens d.world CallerTimeout Done) d.dis d.rnrs d.fates

-- nothing is under way
abbrev pub somebody_waits : Patience → Option End → Option End → Driven → Driven
somebody_waits p None ending d =
    caller_waits (dis_is_due d.world.caller.state d.world.answerer.state ending (nat_lt d.dis p.calls)) d
somebody_waits p (Some why) None d = goes_to d (happens d.world AnswererT1 Done) d.dis d.rnrs d.fates
somebody_waits p (Some why) (Some other) d = d

-- an item is first under way to the caller: an RNR too many is lost, and the caller's long wait is over
abbrev pub comes_back : Bool → PlainItem → Driven → Driven
comes_back true item d = goes_to d (happens (happens d.world LoseToCaller Done) CallerT5 Done) d.dis d.rnrs d.fates
comes_back false item d =
    goes_to d (meets_caller (first_fate d.fates) d.world) d.dis (rnrs_with (first_fate d.fates) item d.rnrs) (later_fates d.fates)

-- one step of a driven call
abbrev pub drives : Patience → List PlainItem → List PlainItem → Driven → Driven
drives p (item ∷ items) others d =
    goes_to d (meets_answerer (first_fate d.fates) item d.world) d.dis d.rnrs (later_fates d.fates)
drives p [] (item ∷ items) d = comes_back (is_rnr_item item && not (nat_lt d.rnrs p.busy)) item d
drives p [] [] d = somebody_waits p d.world.caller.ending d.world.answerer.ending d

-- the events of one step: those of what is first under way to the answerer, one, or two if a training check is spoiled
abbrev pub events_there : Fate → PlainItem → List Event
events_there comes item = DeliverToAnswerer ∷ []
events_there lost item = LoseToAnswerer ∷ []
events_there spoiled (framed signal) = LoseToAnswerer ∷ []
events_there spoiled (checked octets) = Spoil ∷ DeliverToAnswerer ∷ []

-- the event of what is first under way to the caller, if it isn't an RNR too many
abbrev pub events_back : Fate → List Event
events_back comes = DeliverToCaller ∷ []
events_back lost = LoseToCaller ∷ []
events_back spoiled = LoseToCaller ∷ []

-- the event of a wait that is over, if anybody waits; the answerer's T2 may be due
abbrev pub events_waiting : Option End → Option End → Bool → List Event
events_waiting None ending due = cond due AnswererT2 CallerTimeout ∷ []
events_waiting (Some why) None due = AnswererT1 ∷ []
events_waiting (Some why) (Some other) due = []

-- The events of one step, by the fate of what is first under way, or by whose wait is over: one, or two if a training check is spoiled or
-- an RNR is one too many.
abbrev pub step_events : Patience → List PlainItem → List PlainItem → Driven → List Event
step_events p (item ∷ items) others d = events_there (first_fate d.fates) item
step_events p [] (item ∷ items) d =
    cond (is_rnr_item item && not (nat_lt d.rnrs p.busy)) (LoseToCaller ∷ CallerT5 ∷ []) (events_back (first_fate d.fates))
step_events p [] [] d =
    events_waiting d.world.caller.ending d.world.answerer.ending
    (dis_is_due d.world.caller.state d.world.answerer.state d.world.answerer.ending (nat_lt d.dis p.calls))

-- nothing is under way, and both have ended
abbrev pub is_over_at : List PlainItem → List PlainItem → Option End → Option End → Bool
is_over_at [] [] (Some why) (Some other) = true
is_over_at _ _ _ _ = false

-- a driven call is over: nothing is under way, and both stations have ended
abbrev pub is_over : Driven → Bool
is_over d = is_over_at d.world.to_answerer d.world.to_caller d.world.caller.ending d.world.answerer.ending

-- a number of steps, or fewer if the call is over
abbrev pub drive : ℕ → Patience → Driven → Driven
drive zero p d = d
drive (suc most) p d = cond (is_over d) d (drive most p (drives p d.world.to_answerer d.world.to_caller d))

-- how many steps were made
abbrev pub steps_made : ℕ → Patience → Driven → ℕ
steps_made zero p d = 0
steps_made (suc most) p d = cond (is_over d) 0 (suc (steps_made most p (drives p d.world.to_answerer d.world.to_caller d)))

-- a new call, driven: one DIS is under way
abbrev pub new_driven : Document → Wish → Caps → List Fate → Driven
new_driven document wish caps fates = record { world = new_world document wish caps; dis = 1; rnrs = 0; fates = fates }

-- a number of times a cost
abbrev pub times : ℕ → ℕ → ℕ
times zero cost = 0
times (suc k) cost = cost + times k cost

-- what the groups and blocks that are begun may take: a wait for a DIS two steps for each DIS, a group 66 for its speeds, a block 1,068 and
-- 8 for each RNR
abbrev pub paid : Patience → Caller → ℕ
paid p c =
    times (suc (length c.finished)) (2 * p.calls) + 66 * groups_in c.state c + times (blocks_in c.state c) (1068 + 8 * p.busy)

-- the most steps of a driven call of a document: as if each page had 512 blocks, each of a group of its own
abbrev pub most_steps : Patience → Document → ℕ
most_steps p document =
    (times (suc (512 * length document)) (2 * p.calls) + 66 * suc (512 * length document) +
    times (512 * length document) (1068 + 8 * p.busy)) + 2

-- A driven call ends at both stations. It makes at most 2 `calls` steps for each group that is through and one more, 66 for each group
-- begun, 1,068 + 8 `busy` for each block begun, and 2; this is bounded by the document alone. If it made fewer steps than it may, both
-- stations have ended and nothing is under way. `calls` is how many DIS are sent in one wait, `busy` how many RNRs a caller hears for one
-- block before its T5.
pub record Ends (p : Patience) (most made : ℕ) (document : Document) (d : Driven) : Type 0 where
  pub few : made ≤ paid p d.world.caller + 2
  pub bounded : made ≤ most_steps p document
  pub over : made < most → is_over d ≡ true

-- The law: every driven call ends as `Ends` says, whatever becomes of each item by the list of fates: it comes, is lost or is spoiled.
abbrev pub DrivenCallsEnd : Type 0
DrivenCallsEnd =
    (document : Document) (wish : Wish) (caps : Caps) (p : Patience) (fates : List Fate) (most : ℕ) → 1 ≤ p.calls →
    Ends p most (steps_made most p (new_driven document wish caps fates)) document (drive most p (new_driven document wish caps fates))

-- The law: at each step of a driven call the headline holds, since it is a run of events.
abbrev pub DrivenCallsAreSafe : Type 0
DrivenCallsAreSafe =
    (document : Document) (wish : Wish) (caps : Caps) (p : Patience) (fates : List Fate) (most : ℕ) → Each IsFullPage document →
    IsSafeWorld document (drive most p (new_driven document wish caps fates)).world

-- The law: the events of a step, all of each done, lead to the world of the next step.
abbrev pub DrivenStepsAreEvents : Type 0
DrivenStepsAreEvents =
    (p : Patience) (d : Driven) →
    run (all_done (step_events p d.world.to_answerer d.world.to_caller d)) d.world ≡
    (drives p d.world.to_answerer d.world.to_caller d).world
