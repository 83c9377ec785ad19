-- A call over a bad line ends.
use Rattle.std.proofs.Common.{◌≡◌, ◌⊎◌, inl, inr, ℕ, zero, suc, ◌+◌, ◌≤◌, Bool, true, false, List, [], ◌∷◌, Option, Some, None, refl, arith}
use Rattle.std.proofs.Common.{ap, sym, subst, ◌∙◌}
use Rattle.stations.proofs.Sizes.{callers_short, steps_are_placed}
use Rattle.stations.specs.CallerStep.{Caller}
use Rattle.stations.specs.Inputs.{PlainItem}
use Rattle.stations.specs.Laws.{SpeedsHold}
use Rattle.stations.specs.Sizes.{AreShort, BlocksAreFew, IsPlaced, StepsArePlaced}
use Rattle.stations.specs.declared.turn.End.{End}
use Rattle.line_sim.specs.Driving.{Driven, Patience, drives, is_over, is_over_at, most_steps, paid, somebody_waits}
use Rattle.line_sim.specs.Fates.{next_of}
use Rattle.line_sim.proofs.BusyCalls.{caller_set, left_set, over_set}
use Rattle.line_sim.proofs.Driven.{paid_few}
use Rattle.line_sim.proofs.Driving.{potential, step_drives}
use Rattle.calls.specs.BadLines.{BadCallsEnd, Going, fated, going, gone, next_going, patience_of, set_in, setting_of}
use Rattle.calls.specs.declared.losses.BadLine.{BadLine}

-- a call that is over stays as it is
pub over_steps : (p : Patience) (d : Driven) → is_over d ≡ true → next_of p d ≡ d
over_steps p d over = at d.world.to_answerer d.world.to_caller d.world.caller.ending d.world.answerer.ending refl refl over
  where
    at : (items others : List PlainItem) (one other : Option End) → d.world.caller.ending ≡ one → d.world.answerer.ending ≡ other →
        is_over_at items others one other ≡ true → drives p items others d ≡ d
    at [] [] (Some why) (Some other) e f over =
        ap (λ x. somebody_waits p x d.world.answerer.ending d) e ∙ ap (λ x. somebody_waits p (Some why) x d) f
    at [] [] (Some why) None e f over = absurd (cc)
    at [] [] None other e f over = absurd (cc)
    at [] (item ∷ others) one other e f over = absurd (cc)
    at (item ∷ items) others one other e f over = absurd (cc)

over_on : (line : BadLine) (g : Going) → is_over g.call ≡ true → is_over (next_going line g).call ≡ true
over_on line g over =
    let f : Driven = fated line (set_in line g) in
    let there : is_over f ≡ true = over_set (setting_of line g) g.call ∙ over in
    ap is_over (over_steps (patience_of line) f there) ∙ there

-- what some steps took of what a call has left
record Took (line : BadLine) (first : Going) (made : ℕ) (d : Driven) : Type 0 where
  placed : IsPlaced d.world.caller
  document : d.world.caller.document ≡ first.call.world.caller.document
  less :
      made + potential (patience_of line) d + paid (patience_of line) first.call.world.caller ≤
      potential (patience_of line) first.call + paid (patience_of line) d.world.caller

-- it is over, or they took so much
took : SpeedsHold → StepsArePlaced → ((c : Caller) → AreShort c) → (made : ℕ) (line : BadLine) (first : Going) →
    IsPlaced first.call.world.caller →
    (is_over (gone made line first).call ≡ true) ⊎ Took line first made (gone made line first).call
took speeds law short zero line first placed = inr (record { placed = placed; document = refl; less = omega arith })
took speeds law short (suc made) line first placed =
    at (took speeds law short made line first placed) (is_over (gone made line first).call) refl
  where
    at :
        (is_over (gone made line first).call ≡ true) ⊎ Took line first made (gone made line first).call → (b : Bool) →
        is_over (gone made line first).call ≡ b →
        (is_over (next_going line (gone made line first)).call ≡ true) ⊎
        Took line first (suc made) (next_going line (gone made line first)).call
    at (inl over) b is = inl (over_on line (gone made line first) over)
    at (inr so_far) true is = inl (over_on line (gone made line first) is)
    at (inr so_far) false is =
        let g : Going = gone made line first in
        let p : Patience = patience_of line in
        let f : Driven = fated line (set_in line g) in
        let same : f.world.caller ≡ g.call.world.caller = caller_set (setting_of line g) g.call in
        let step =
        step_drives speeds law short p f (subst IsPlaced (sym same) so_far.placed) (over_set (setting_of line g) g.call ∙ is) in
        let one : suc (potential p (next_going line g).call) + paid p f.world.caller ≤
        potential p f + paid p (next_going line g).call.world.caller = step.less in
        let left : potential p f ≡ potential p g.call = left_set p (setting_of line g) g.call in
        let kept : paid p f.world.caller ≡ paid p g.call.world.caller = ap (λ (c : Caller). paid p c) same in
        let before = so_far.less in
        inr (record {
          placed = step.placed;
          document = step.document ∙ (ap (λ (c : Caller). c.document) same ∙ so_far.document);
          less = omega (arith, one, left, kept, before);
        })

pub bad_calls_end : SpeedsHold → BlocksAreFew → BadCallsEnd
bad_calls_end speeds law line document wish caps generator made patient long =
    let first : Going = going document wish caps generator in
    at (gone made line first).call
    (took speeds steps_are_placed (callers_short law) made line first (record { group = refl; place = omega arith; groups = omega arith }))
  where
    at : (d : Driven) → (is_over d ≡ true) ⊎ Took line (going document wish caps generator) made d → is_over d ≡ true
    at d (inl over) = over
    at d (inr so_far) =
        let less = so_far.less in
        let few = paid_few law (patience_of line) d.world.caller so_far.placed in
        let same = ap (λ pages. most_steps (patience_of line) pages) so_far.document in
        absurd (omega arith)
