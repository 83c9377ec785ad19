use Rattle.std.proofs.Common.{◌≡◌, arith, length-drop, refl}
use Rattle.page_code.specs.TwoDimensions.Lines.{line_of}
use Rattle.page_code.proofs.TwoDimensions.QuickModes.{along_none, along_step, count_size, lengths, word_after}
use Rattle.page_code.proofs.t6.read.quick_modes.Goals as goal
use Rattle.page_code.proofs.t6.read.quick_modes.Goals.{
  then-loop-used-test+else-front-width,
  else-loop-used-test,
  then-loop-used-test+then-front-width+in_default,
}

pub loop-used-init : goal.loop-used-init
loop-used-init c = record {
  fits = c.requires.fits;
  few = omega arith;
  same = refl;
  word = λ k h. c.peek_57-word.ensures k (omega arith);
  along = λ reference is.
      let both = lengths c.args.held.now c.args.list.now.items c.args.width c.args.start reference c.requires.fits is in
      along_none reference c.args.reader.now (line_of c.args.list.now.items c.args.start)
      (omega (arith, c.requires.enough, length-drop c.args.reader.now.place c.args.reader.now.bits))
      (omega (arith, both.0, both.1, c.requires.fits.low));
  still = λ none. (refl, refl);
}

pub quick_step-requires-clause-fits : goal.quick_step-requires-clause-fits
quick_step-requires-clause-fits c = c.loop-used.invariant.fits

pub loop-used-preserved : goal.loop-used-preserved
loop-used-preserved c =
    let before = line_of c.loop-used.list.items c.loop-used.front in
    let next = line_of c.quick_step.new.list.items c.in-Some.next in
    record {
      fits = c.in-Some.ensures.fits;
      few = omega (arith, count_size c.args.held.now c.loop-used.word c.in-Some.count before next c.in-Some.ensures.steps);
      same = refl;
      word = word_after c.args.held.now c.args.reader.now c.loop-used.used c.loop-used.word c.in-Some.count before next
          c.loop-used-test.true
          c.loop-used.invariant.word c.in-Some.ensures.steps;
      along = λ reference is.
          let both = lengths c.args.held.now c.loop-used.list.items c.args.width c.loop-used.front reference c.loop-used.invariant.fits is
          in
          along_step reference c.args.held.now c.args.reader.now c.loop-used.used c.loop-used.word c.in-Some.count
          (line_of c.args.list.now.items c.args.start) before next is c.loop-used-test.true c.requires.enough c.loop-used.invariant.word
          (omega (arith, both.0, both.1, c.if-front-width.true, c.requires.fits.wide)) c.in-Some.ensures.steps
          (c.loop-used.invariant.along reference is);
      still = λ none. absurd (omega (
        arith,
        none,
        count_size c.args.held.now c.loop-used.word c.in-Some.count before next c.in-Some.ensures.steps,
      ));
    }

pub step-requires-clause-fits : goal.step-requires-clause-fits
step-requires-clause-fits c = omega (
  arith,
  c.requires.enough,
  c.loop-used.invariant.few,
  length-drop c.args.reader.now.place c.args.reader.now.bits,
)

pub returns-clause-fits : goal.returns-clause-fits
returns-clause-fits c =
    let same : c.loop-used-test.list.items ≡ c.loop-used.list.items = elim c.loop-used-test.branch [
      | then-loop-used-test+else-front-width w ↦ rw w.list-is refl
      | else-loop-used-test w ↦ rw w.list-is refl
      | then-loop-used-test+then-front-width+in_default w ↦ rw w.list-is w.in_default.ensures.none
    ] in
    rw same c.loop-used.invariant.fits

pub returns-clause-along : goal.returns-clause-along
returns-clause-along c reference is =
    let same : c.loop-used-test.list.items ≡ c.loop-used.list.items = elim c.loop-used-test.branch [
      | then-loop-used-test+else-front-width w ↦ rw w.list-is refl
      | else-loop-used-test w ↦ rw w.list-is refl
      | then-loop-used-test+then-front-width+in_default w ↦ rw w.list-is w.in_default.ensures.none
    ] in
    rw (same, c.step.ensures) (c.loop-used.invariant.along reference is)
