-- A driven call ends.
use Rattle.std.proofs.Common.{◌≡◌, ℕ, zero, suc, ◌+◌, ◌*◌, ◌≤◌, Bool, true, false, cond, refl, arith, length, ◌∙◌, ap}
use Rattle.stations.specs.Lasting.{blocks_in}
use Rattle.stations.proofs.Sizes.{callers_short, placed_are_few, steps_are_placed}
use Rattle.stations.specs.Laws.{SpeedsHold}
use Rattle.stations.specs.CallerStep.{Caller}
use Rattle.line_sim.specs.Driving.{Patience, times, paid, Driven, drives, is_over, drive, steps_made, new_driven, most_steps, DrivenCallsEnd}
use Rattle.stations.specs.Sizes.{AreShort, IsPlaced, BlocksAreFew, StepsArePlaced}
use Rattle.line_sim.proofs.Driving.{potential, step_drives}

-- what so many steps take
pub record Drove (p : Patience) (made : ℕ) (d after : Driven) : Type 0 where
  pub placed : IsPlaced after.world.caller
  pub document : after.world.caller.document ≡ d.world.caller.document
  pub less : made + potential p after + paid p d.world.caller ≤ potential p d + paid p after.world.caller

drove :
    SpeedsHold → StepsArePlaced → ((c : Caller) → AreShort c) → (most : ℕ) (p : Patience) (d : Driven) →
    IsPlaced d.world.caller → Drove p (steps_made most p d) d (drive most p d)
drove speeds law short zero p d placed = record { placed = placed; document = refl; less = omega arith }
drove speeds law short (suc most) p d placed =
    let next = drives p d.world.to_answerer d.world.to_caller d in
    at (λ (e : IsPlaced next.world.caller). drove speeds law short most p next e) (is_over d) refl
  where
    at :
        (IsPlaced (drives p d.world.to_answerer d.world.to_caller d).world.caller →
        Drove p (steps_made most p (drives p d.world.to_answerer d.world.to_caller d)) (drives p d.world.to_answerer d.world.to_caller d)
        (drive most p (drives p d.world.to_answerer d.world.to_caller d))) →
        (over : Bool) → is_over d ≡ over →
        Drove p (cond over 0 (suc (steps_made most p (drives p d.world.to_answerer d.world.to_caller d)))) d
        (cond over d (drive most p (drives p d.world.to_answerer d.world.to_caller d)))
    at later true is = record { placed = placed; document = refl; less = omega arith }
    at later false is =
        let step = step_drives speeds law short p d placed is in
        let rest = later step.placed in
        record { placed = rest.placed; document = rest.document ∙ step.document; less = (let first = step.less in let others = rest.less in omega arith) }

-- fewer steps than it may make: it is over
over_then : (most : ℕ) (p : Patience) (d : Driven) → suc (steps_made most p d) ≤ most → is_over (drive most p d) ≡ true
over_then zero p d few = absurd (omega arith)
over_then (suc most) p d few =
    at (λ few. over_then most p (drives p d.world.to_answerer d.world.to_caller d) few) (is_over d) refl few
  where
    at :
        (suc (steps_made most p (drives p d.world.to_answerer d.world.to_caller d)) ≤ most →
        is_over (drive most p (drives p d.world.to_answerer d.world.to_caller d)) ≡ true) →
        (over : Bool) → is_over d ≡ over →
        suc (cond over 0 (suc (steps_made most p (drives p d.world.to_answerer d.world.to_caller d)))) ≤ suc most →
        is_over (cond over d (drive most p (drives p d.world.to_answerer d.world.to_caller d))) ≡ true
    at later true is few = is
    at later false is few = later (omega arith)

times_more : (n m cost : ℕ) → n ≤ m → times n cost ≤ times m cost
times_more zero m cost few = omega arith
times_more (suc n) zero cost few = absurd (omega arith)
times_more (suc n) (suc m) cost few = let less = times_more n m cost (omega arith) in omega arith

-- what is paid is bounded by the document
pub paid_few : BlocksAreFew → (p : Patience) (c : Caller) → IsPlaced c → suc (suc (paid p c)) ≤ most_steps p c.document
paid_few law p c placed =
    let few = placed_are_few law c placed in
    let calls =
    times_more (suc (length c.finished)) (suc (512 * length c.document)) (2 * p.calls) (let finished = few.2 in omega arith) in
    let blocks = times_more (blocks_in c.state c) (512 * length c.document) (1068 + 8 * p.busy) few.0 in
    let groups = few.1 in
    omega arith

pub driven_calls_end : SpeedsHold → BlocksAreFew → DrivenCallsEnd
driven_calls_end speeds law document wish caps p fates most patient =
    let d = new_driven document wish caps fates in
    let run =
    drove speeds steps_are_placed (callers_short law) most p d (record { group = refl; place = omega arith; groups = omega arith }) in
    record {
      few = (let less = run.less in omega arith);
      over = over_then most p d;
      bounded = at (drive most p d) run;
    }
  where
    at :
        (after : Driven) → Drove p (steps_made most p (new_driven document wish caps fates)) (new_driven document wish caps fates) after →
        steps_made most p (new_driven document wish caps fates) ≤ most_steps p document
    at after run =
        let less = run.less in
        let few = paid_few law p after.world.caller run.placed in
        let same = ap (λ pages. most_steps p pages) run.document in
        omega arith
