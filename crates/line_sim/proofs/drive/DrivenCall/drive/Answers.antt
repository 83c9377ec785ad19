use Rattle.std.proofs.Common.{arith, ap, map, refl, sym, subst, ◌∙◌}
use Rattle.line_sim.specs.Driving.{Driven, Ends, drive, first_fate, new_driven}
use Rattle.line_sim.specs.Fates.{plain_fate}
use Rattle.line_sim.proofs.Fates.{along_all, along_broken, along_first, along_more, along_over, past_near}
use Rattle.line_sim.proofs.drive.DrivenCall.drive.Goals as goal

pub loop-made-init : goal.loop-made-init
loop-made-init c =
    record {
      along = λ p d shows is. along_first p c.args.self.now (map plain_fate c.args.fates.now) d shows is;
      few = omega arith;
      near = omega arith;
    }

pub returns-in_default-clause-drives : goal.returns-in_default-clause-drives
returns-in_default-clause-drives c p d shows is =
    let along = c.loop-made.invariant.along p d shows is in
    along_over p c.loop-made.self c.step.new.self (map plain_fate c.args.fates.now) d c.loop-made.made c.loop-made.at c.args.most along
    c.loop-made-test.true
    (c.in_default.ensures.steps p (drive c.loop-made.made p d) along.shows (ap first_fate along.left ∙ sym c.fate_at.ensures))

pub returns-in_default-clause-ends : goal.returns-in_default-clause-ends
returns-in_default-clause-ends c document wish caps p shows some =
    let d : Driven = new_driven document wish caps (map plain_fate c.args.fates.now) in
    let along = c.loop-made.invariant.along p d shows refl in
    let made =
    along_over p c.loop-made.self c.step.new.self (map plain_fate c.args.fates.now) d c.loop-made.made c.loop-made.at c.args.most along
    c.loop-made-test.true
    (c.in_default.ensures.steps p (drive c.loop-made.made p d) along.shows (ap first_fate along.left ∙ sym c.fate_at.ensures)) in
    subst (λ n. Ends p c.args.most n document (drive c.args.most p d)) (sym made.1)
    (c.driven_calls_end.ensures.driven document wish caps p (map plain_fate c.args.fates.now) c.args.most some)

pub returns-then-step-clause-drives : goal.returns-then-step-clause-drives
returns-then-step-clause-drives c p d shows is =
    let along = c.loop-made.invariant.along p d shows is in
    along_broken p c.loop-made.self c.step.new.self (map plain_fate c.args.fates.now) d c.loop-made.made c.loop-made.at c.args.most
    c.in-Some.step along c.loop-made-test.true
    (c.in-Some.ensures.steps p (drive c.loop-made.made p d) along.shows (ap first_fate along.left ∙ sym c.fate_at.ensures)) c.if-step.true

pub loop-made-preserved : goal.loop-made-preserved
loop-made-preserved c =
    record {
      along = λ p d shows is.
          let along = c.loop-made.invariant.along p d shows is in
          along_more p c.loop-made.self c.step.new.self (map plain_fate c.args.fates.now) d c.loop-made.made c.loop-made.at
          c.past-at.result c.is_fate_due-due.result c.in-Some.step along
          (c.in-Some.ensures.steps p (drive c.loop-made.made p d) along.shows (ap first_fate along.left ∙ sym c.fate_at.ensures))
          c.if-step.false c.is_fate_due-due.ensures c.past-at.ensures;
      few = omega arith;
      near = past_near c.is_fate_due-due.result c.loop-made.at c.loop-made.made c.past-at.result
          c.past-at.ensures c.loop-made.invariant.near;
    }

pub returns-clause-drives : goal.returns-clause-drives
returns-clause-drives c p d shows is =
    along_all p c.loop-made.self (map plain_fate c.args.fates.now) d c.loop-made.made c.loop-made.at c.args.most
    (c.loop-made.invariant.along p d shows is) c.loop-made.invariant.few c.loop-made-test.false

pub returns-clause-ends : goal.returns-clause-ends
returns-clause-ends c document wish caps p shows some =
    let d : Driven = new_driven document wish caps (map plain_fate c.args.fates.now) in
    let made =
    along_all p c.loop-made.self (map plain_fate c.args.fates.now) d c.loop-made.made c.loop-made.at c.args.most
    (c.loop-made.invariant.along p d shows refl) c.loop-made.invariant.few c.loop-made-test.false in
    subst (λ n. Ends p c.args.most n document (drive c.args.most p d)) (sym made.1)
    (c.driven_calls_end.ensures.driven document wish caps p (map plain_fate c.args.fates.now) c.args.most some)

pub returns-in_default-clause-bears : goal.returns-in_default-clause-bears
returns-in_default-clause-bears c document wish caps p shows can few long =
    let d : Driven = new_driven document wish caps (map plain_fate c.args.fates.now) in
    let along = c.loop-made.invariant.along p d shows refl in
    let made =
    along_over p c.loop-made.self c.step.new.self (map plain_fate c.args.fates.now) d c.loop-made.made c.loop-made.at c.args.most along
    c.loop-made-test.true
    (c.in_default.ensures.steps p (drive c.loop-made.made p d) along.shows (ap first_fate along.left ∙ sym c.fate_at.ensures)) in (
      (drive c.args.most p d).world,
      made.0.world,
      c.calls_bear.ensures.two document wish caps p (map plain_fate c.args.fates.now) c.args.most can few long,
    )

pub returns-clause-bears : goal.returns-clause-bears
returns-clause-bears c document wish caps p shows can few long =
    let d : Driven = new_driven document wish caps (map plain_fate c.args.fates.now) in
    let made =
    along_all p c.loop-made.self (map plain_fate c.args.fates.now) d c.loop-made.made c.loop-made.at c.args.most
    (c.loop-made.invariant.along p d shows refl) c.loop-made.invariant.few c.loop-made-test.false in (
      (drive c.args.most p d).world,
      made.0.world,
      c.calls_bear.ensures.two document wish caps p (map plain_fate c.args.fates.now) c.args.most can few long,
    )
