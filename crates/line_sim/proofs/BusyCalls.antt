-- A driven call ends whenever the answerer is set busy and ready.
use Rattle.std.proofs.Common.{◌≡◌, ℕ, zero, suc, ◌≤◌, Bool, true, false, cond, Option, Some, None, List, refl, arith, ap, sym, subst}
use Rattle.std.proofs.Common.{◌∙◌}
use Rattle.stations.proofs.Sizes.{callers_short, steps_are_placed}
use Rattle.stations.specs.AnswererStep.{AnswererAnswer, answerer_items, answerer_table, unless_answerer_ended}
use Rattle.stations.specs.CallerStep.{Caller}
use Rattle.stations.specs.Inputs.{is_busy}
use Rattle.stations.specs.Laws.{SpeedsHold}
use Rattle.stations.specs.Sizes.{AreShort, BlocksAreFew, IsPlaced, StepsArePlaced}
use Rattle.stations.specs.declared.turn.AnswererState.{AnswererState}
use Rattle.stations.specs.declared.turn.AnswererState.TheVariants.{PhaseB, WaitTraining, Message}
use Rattle.stations.specs.declared.turn.End.{End}
use Rattle.line_sim.specs.BusyCalls.{BusyCallsAreSafe, BusyCallsEnd, BusyStepsAreEvents, drive_set, drives_set, first_setting}
use Rattle.line_sim.specs.BusyCalls.{later_settings, sets, steps_set}
use Rattle.line_sim.specs.Driving.{Driven, Patience, is_over, most_steps, new_driven, paid}
use Rattle.line_sim.specs.Headline.{IsSafeWorld, RunsAreSafe}
use Rattle.line_sim.specs.Line.{World, answerer_sends, happens}
use Rattle.line_sim.specs.Line.Outcome.{Done}
use Rattle.line_sim.specs.declared.event.Event.TheVariants.{Busy}
use Rattle.line_sim.proofs.Driven.{Drove, paid_few}
use Rattle.line_sim.proofs.DrivenRuns.{LeadsTo, both, driven_steps_are_events, once, stays_there, step_leads}
use Rattle.line_sim.proofs.Driving.{potential, step_drives}

-- what a setting leaves of a world: all but whether the answerer is busy
record Leaves (w after : World) : Type 0 where
  caller : after.caller ≡ w.caller
  to_answerer : after.to_answerer ≡ w.to_answerer
  to_caller : after.to_caller ≡ w.to_caller
  ending : after.answerer.ending ≡ w.answerer.ending

-- the world after an answer of its answerer
abbrev answered : World → AnswererAnswer → World
answered w answer = answerer_sends answer.turn w answer.next (answerer_items answer.next answer.turn)

set_leaves : (w : World) (busy : Bool) → Leaves w (happens w (Busy busy) Done)
set_leaves w busy = at w.answerer.ending refl
  where
    in_state : (state : AnswererState) → Leaves w (answered w (answerer_table state (is_busy busy) w.answerer))
    in_state PhaseB = record { caller = refl; to_answerer = refl; to_caller = refl; ending = refl }
    in_state WaitTraining = record { caller = refl; to_answerer = refl; to_caller = refl; ending = refl }
    in_state Message = record { caller = refl; to_answerer = refl; to_caller = refl; ending = refl }

    at : (ending : Option End) → w.answerer.ending ≡ ending → Leaves w (answered w (unless_answerer_ended ending (is_busy busy) w.answerer))
    at (Some why) is = record { caller = refl; to_answerer = refl; to_caller = refl; ending = refl }
    at None is = in_state w.answerer.state

-- a setting takes nothing of what a call has left, and doesn't end it
record IsKept (p : Patience) (d set : Driven) : Type 0 where
  caller : set.world.caller ≡ d.world.caller
  over : is_over set ≡ is_over d
  left : potential p set ≡ potential p d

sets_kept : (p : Patience) (setting : Option Bool) (d : Driven) → IsKept p d (sets setting d)
sets_kept p None d = record { caller = refl; over = refl; left = refl }
sets_kept p (Some busy) d =
    let leaves = set_leaves d.world busy in
    at (happens d.world (Busy busy) Done) leaves
  where
    at : (after : World) → Leaves d.world after → IsKept p d (record { world = after; dis = d.dis; rnrs = d.rnrs; fates = d.fates })
    at after leaves = record {
      caller = leaves.caller;
      over = rw (leaves.to_answerer, leaves.to_caller, leaves.caller, leaves.ending) refl;
      left = rw (leaves.to_answerer, leaves.to_caller, leaves.caller, leaves.ending) refl;
    }

-- a setting doesn't end a call
pub over_set : (setting : Option Bool) (d : Driven) → is_over (sets setting d) ≡ is_over d
over_set setting d = (sets_kept (record { calls = 0; busy = 0 }) setting d).over

-- and leaves the caller
pub caller_set : (setting : Option Bool) (d : Driven) → (sets setting d).world.caller ≡ d.world.caller
caller_set setting d = (sets_kept (record { calls = 0; busy = 0 }) setting d).caller

-- and what the call has left
pub left_set : (p : Patience) (setting : Option Bool) (d : Driven) → potential p (sets setting d) ≡ potential p d
left_set p setting d = (sets_kept p setting d).left

drove_set :
    SpeedsHold → StepsArePlaced → ((c : Caller) → AreShort c) → (most : ℕ) (p : Patience) (settings : List (Option Bool)) (d : Driven) →
    IsPlaced d.world.caller → Drove p (steps_set most p settings d) d (drive_set most p settings d)
drove_set speeds law short zero p settings d placed = record { placed = placed; document = refl; less = omega arith }
drove_set speeds law short (suc most) p settings d placed =
    at (λ e. drove_set speeds law short most p (later_settings settings) (drives_set p (first_setting settings) d) e) (is_over d) refl
  where
    at :
        (IsPlaced (drives_set p (first_setting settings) d).world.caller →
        Drove p (steps_set most p (later_settings settings) (drives_set p (first_setting settings) d))
        (drives_set p (first_setting settings) d)
        (drive_set most p (later_settings settings) (drives_set p (first_setting settings) d))) →
        (over : Bool) → is_over d ≡ over →
        Drove p (cond over 0 (suc (steps_set most p (later_settings settings) (drives_set p (first_setting settings) d)))) d
        (cond over d (drive_set most p (later_settings settings) (drives_set p (first_setting settings) d)))
    at later true is = record { placed = placed; document = refl; less = omega arith }
    at later false is =
        let kept = sets_kept p (first_setting settings) d in
        let step =
        step_drives speeds law short p (sets (first_setting settings) d) (subst IsPlaced (sym kept.caller) placed) (kept.over ∙ is) in
        let rest = later step.placed in
        record {
          placed = rest.placed;
          document = rest.document ∙ (step.document ∙ ap (λ (c : Caller). c.document) kept.caller);
          less = (let first = step.less in
              let others = rest.less in
              let left = kept.left in
              let same = ap (λ (c : Caller). paid p c) kept.caller in
              omega arith);
        }

-- fewer steps than it may make: it is over
over_then :
    (most : ℕ) (p : Patience) (settings : List (Option Bool)) (d : Driven) → suc (steps_set most p settings d) ≤ most →
    is_over (drive_set most p settings d) ≡ true
over_then zero p settings d few = absurd (omega arith)
over_then (suc most) p settings d few =
    at (λ few. over_then most p (later_settings settings) (drives_set p (first_setting settings) d) few) (is_over d) refl few
  where
    at :
        (suc (steps_set most p (later_settings settings) (drives_set p (first_setting settings) d)) ≤ most →
        is_over (drive_set most p (later_settings settings) (drives_set p (first_setting settings) d)) ≡ true) →
        (over : Bool) → is_over d ≡ over →
        suc (cond over 0 (suc (steps_set most p (later_settings settings) (drives_set p (first_setting settings) d)))) ≤ suc most →
        is_over (cond over d (drive_set most p (later_settings settings) (drives_set p (first_setting settings) d))) ≡ true
    at later true is few = is
    at later false is few = later (omega arith)

pub busy_calls_end : SpeedsHold → BlocksAreFew → BusyCallsEnd
busy_calls_end speeds law document wish caps p fates settings most patient =
    let d = new_driven document wish caps fates in
    let run =
    drove_set speeds steps_are_placed (callers_short law) most p settings d
    (record { group = refl; place = omega arith; groups = omega arith }) in
    record {
      few = (let less = run.less in omega arith);
      over = over_then most p settings d;
      bounded = at (drive_set most p settings d) run;
    }
  where
    at :
        (after : Driven) →
        Drove p (steps_set most p settings (new_driven document wish caps fates)) (new_driven document wish caps fates) after →
        steps_set most p settings (new_driven document wish caps fates) ≤ most_steps p document
    at after run =
        let less = run.less in
        let few = paid_few law p after.world.caller run.placed in
        let same = ap (λ pages. most_steps p pages) run.document in
        omega arith

-- a setting is an event
set_leads : (setting : Option Bool) (d : Driven) → LeadsTo d.world (sets setting d).world
set_leads None d = stays_there d.world
set_leads (Some busy) d = once d.world (Busy busy)

drive_leads : (most : ℕ) (p : Patience) (settings : List (Option Bool)) (d : Driven) → LeadsTo d.world (drive_set most p settings d).world
drive_leads zero p settings d = stays_there d.world
drive_leads (suc most) p settings d =
    at (drive_leads most p (later_settings settings) (drives_set p (first_setting settings) d)) (is_over d)
  where
    at :
        LeadsTo (drives_set p (first_setting settings) d).world
        (drive_set most p (later_settings settings) (drives_set p (first_setting settings) d)).world →
        (over : Bool) →
        LeadsTo d.world (cond over d (drive_set most p (later_settings settings) (drives_set p (first_setting settings) d))).world
    at later true = stays_there d.world
    at later false =
        let set = sets (first_setting settings) d in
        both d.world set.world (drive_set most p (later_settings settings) (drives_set p (first_setting settings) d)).world
        (set_leads (first_setting settings) d)
        (both set.world (drives_set p (first_setting settings) d).world
        (drive_set most p (later_settings settings) (drives_set p (first_setting settings) d)).world
        (step_leads p set.world.to_answerer set.world.to_caller set) later)

pub busy_calls_are_safe : RunsAreSafe → BusyCallsAreSafe
busy_calls_are_safe law document wish caps p fates settings most full =
    let led = drive_leads most p settings (new_driven document wish caps fates) in
    subst (IsSafeWorld document) led.leads (law document wish caps led.steps full)

-- a setting's event, and then the step's
pub busy_steps_are_events : BusyStepsAreEvents
busy_steps_are_events p None d = driven_steps_are_events p d
busy_steps_are_events p (Some busy) d = driven_steps_are_events p (sets (Some busy) d)
