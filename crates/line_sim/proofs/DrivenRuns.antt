-- A driven call is a run of events, and so it is safe.
use Rattle.std.proofs.Common.{◌≡◌, ℕ, zero, suc, Bool, true, false, cond, Option, Some, None, List, [], ◌∷◌, ◌++◌, refl, subst, ap, ◌∙◌}
use Rattle.std.specs.Prelude.{◌&&◌, not, nat_lt}
use Rattle.stations.specs.Inputs.{PlainItem, framed, checked}
use Rattle.stations.specs.declared.turn.End.{End}
use Rattle.line_sim.specs.Line.{World, Outcome, happens, run}
use Rattle.line_sim.specs.Line.Outcome.{Done}
use Rattle.line_sim.specs.declared.event.Event.{Event}
use Rattle.line_sim.specs.declared.event.Event.TheVariants.{DeliverToAnswerer, DeliverToCaller, LoseToAnswerer, LoseToCaller, Spoil}
use Rattle.line_sim.specs.declared.event.Event.TheVariants.{CallerTimeout, CallerT5, AnswererT1, AnswererT2}
use Rattle.line_sim.specs.Headline.{IsSafeWorld, RunsAreSafe}
use Rattle.line_sim.specs.Report.{all_done}
use Rattle.line_sim.specs.Driving.{Patience, Driven, Fate, first_fate, meets_answerer, meets_caller, is_rnr_item, dis_is_due, caller_waits}
use Rattle.line_sim.specs.Driving.{somebody_waits, comes_back, drives, is_over, drive, new_driven, DrivenCallsAreSafe}
use Rattle.line_sim.specs.Driving.{DrivenStepsAreEvents, events_there, events_back, events_waiting, step_events}
use Rattle.line_sim.specs.Driving.Fate.{comes, lost, spoiled}

-- events that are all made lead from a world to another one
pub record LeadsTo (w after : World) : Type 0 where
  pub steps : List (Event × Outcome)
  pub leads : run steps w ≡ after

run_on : (steps more : List (Event × Outcome)) (w : World) → run (steps ++ more) w ≡ run more (run steps w)
run_on [] more w = refl
run_on (step ∷ steps) more w = run_on steps more (happens w step.0 step.1)

pub both : (w middle after : World) → LeadsTo w middle → LeadsTo middle after → LeadsTo w after
both w middle after one two = record {
  steps = one.steps ++ two.steps;
  leads = run_on one.steps two.steps w ∙ (ap (λ world. run two.steps world) one.leads ∙ two.leads);
}

pub stays_there : (w : World) → LeadsTo w w
stays_there w = record { steps = []; leads = refl }

pub once : (w : World) (event : Event) → LeadsTo w (happens w event Done)
once w event = record { steps = (event, Done) ∷ []; leads = refl }

twice : (w : World) (event then : Event) → LeadsTo w (happens (happens w event Done) then Done)
twice w event then = record { steps = (event, Done) ∷ (then, Done) ∷ []; leads = refl }

meets_leads : (fate : Fate) (item : PlainItem) (w : World) → LeadsTo w (meets_answerer fate item w)
meets_leads comes item w = once w DeliverToAnswerer
meets_leads lost item w = once w LoseToAnswerer
meets_leads spoiled (framed signal) w = once w LoseToAnswerer
meets_leads spoiled (checked octets) w = twice w Spoil DeliverToAnswerer

back_leads : (fate : Fate) (w : World) → LeadsTo w (meets_caller fate w)
back_leads comes w = once w DeliverToCaller
back_leads lost w = once w LoseToCaller
back_leads spoiled w = once w LoseToCaller

comes_leads : (many : Bool) (item : PlainItem) (d : Driven) → LeadsTo d.world (comes_back many item d).world
comes_leads true item d = twice d.world LoseToCaller CallerT5
comes_leads false item d = back_leads (first_fate d.fates) d.world

waits_leads : (due : Bool) (d : Driven) → LeadsTo d.world (caller_waits due d).world
waits_leads true d = once d.world AnswererT2
waits_leads false d = once d.world CallerTimeout

somebody_leads : (p : Patience) (one other : Option End) (d : Driven) → LeadsTo d.world (somebody_waits p one other d).world
somebody_leads p None ending d =
    waits_leads (dis_is_due d.world.caller.state d.world.answerer.state ending (nat_lt d.dis p.calls)) d
somebody_leads p (Some why) None d = once d.world AnswererT1
somebody_leads p (Some why) (Some other) d = stays_there d.world

pub step_leads : (p : Patience) (items others : List PlainItem) (d : Driven) → LeadsTo d.world (drives p items others d).world
step_leads p (item ∷ items) others d = meets_leads (first_fate d.fates) item d.world
step_leads p [] (item ∷ items) d = comes_leads (is_rnr_item item && not (nat_lt d.rnrs p.busy)) item d
step_leads p [] [] d = somebody_leads p d.world.caller.ending d.world.answerer.ending d

drive_leads : (most : ℕ) (p : Patience) (d : Driven) → LeadsTo d.world (drive most p d).world
drive_leads zero p d = stays_there d.world
drive_leads (suc most) p d =
    at (drive_leads most p (drives p d.world.to_answerer d.world.to_caller d)) (is_over d)
  where
    at :
        LeadsTo (drives p d.world.to_answerer d.world.to_caller d).world
        (drive most p (drives p d.world.to_answerer d.world.to_caller d)).world →
        (over : Bool) →
        LeadsTo d.world (cond over d (drive most p (drives p d.world.to_answerer d.world.to_caller d))).world
    at later true = stays_there d.world
    at later false =
        both d.world (drives p d.world.to_answerer d.world.to_caller d).world
        (drive most p (drives p d.world.to_answerer d.world.to_caller d)).world
        (step_leads p d.world.to_answerer d.world.to_caller d) later

pub driven_calls_are_safe : RunsAreSafe → DrivenCallsAreSafe
driven_calls_are_safe law document wish caps p fates most full =
    let led = drive_leads most p (new_driven document wish caps fates) in
    subst (IsSafeWorld document) led.leads (law document wish caps led.steps full)

-- the events of a step lead to the next one's world
there_lead : (fate : Fate) (item : PlainItem) (w : World) → run (all_done (events_there fate item)) w ≡ meets_answerer fate item w
there_lead comes item w = refl
there_lead lost item w = refl
there_lead spoiled (framed signal) w = refl
there_lead spoiled (checked octets) w = refl

back_lead : (fate : Fate) (w : World) → run (all_done (events_back fate)) w ≡ meets_caller fate w
back_lead comes w = refl
back_lead lost w = refl
back_lead spoiled w = refl

come_lead : (many : Bool) (item : PlainItem) (d : Driven) →
    run (all_done (cond many (LoseToCaller ∷ CallerT5 ∷ []) (events_back (first_fate d.fates)))) d.world ≡ (comes_back many item d).world
come_lead true item d = refl
come_lead false item d = back_lead (first_fate d.fates) d.world

wait_leads : (due : Bool) (d : Driven) → run (all_done (cond due AnswererT2 CallerTimeout ∷ [])) d.world ≡ (caller_waits due d).world
wait_leads true d = refl
wait_leads false d = refl

waits_lead : (p : Patience) (one other : Option End) (d : Driven) →
    run (all_done (events_waiting one other (dis_is_due d.world.caller.state d.world.answerer.state other (nat_lt d.dis p.calls)))) d.world ≡
    (somebody_waits p one other d).world
waits_lead p None other d = wait_leads (dis_is_due d.world.caller.state d.world.answerer.state other (nat_lt d.dis p.calls)) d
waits_lead p (Some why) None d = refl
waits_lead p (Some why) (Some other) d = refl

pub events_lead : (p : Patience) (items others : List PlainItem) (d : Driven) →
    run (all_done (step_events p items others d)) d.world ≡ (drives p items others d).world
events_lead p (item ∷ items) others d = there_lead (first_fate d.fates) item d.world
events_lead p [] (item ∷ others) d = come_lead (is_rnr_item item && not (nat_lt d.rnrs p.busy)) item d
events_lead p [] [] d = waits_lead p d.world.caller.ending d.world.answerer.ending d

pub driven_steps_are_events : DrivenStepsAreEvents
driven_steps_are_events p d = events_lead p d.world.to_answerer d.world.to_caller d
