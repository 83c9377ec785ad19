use Rattle.std.proofs.Common.{◌≤◌, length, arith, inr, refl, None}
use Rattle.std.specs.Prelude.{Err}
use Rattle.page_code.specs.declared.t6.mode.ModeCode.TheVariants.{Pass, Vertical}
use Rattle.page_code.specs.TwoDimensions.Reading.{FindsMode}
use Rattle.page_code.proofs.TwoDimensions.StepsOn.{mode_absent, mode_steps, vertical_steps, horizontal_steps}
use Rattle.page_code.proofs.t6.read.take_mode.Goals as goal

pub returns-in_default-clause-steps : goal.returns-in_default-clause-steps
returns-in_default-clause-steps c =
    let found : FindsMode c.args.reader.now c.next_mode.new.reader None = rw c.in_default.is at c.next_mode.ensures in
    mode_absent c.args.lines.now.reference c.args.reader.now c.next_mode.new.reader c.args.lines.now.line c.args.lines.now.line
    c.no_mode.result (rw found.0 at c.no_mode.ensures, found.1)

pub returns-in-Pass-clause-steps : goal.returns-in-Pass-clause-steps
returns-in-Pass-clause-steps c =
    let within : c.args.reader.now.place ≤ length c.args.reader.now.bits = omega (
      arith,
      c.place-place.ensures.place,
      c.place-place.ensures.within,
    ) in
    mode_steps c.args.lines.now.reference c.args.reader.now c.next_mode.new.reader c.args.lines.now.line c.pass.new.self.line Pass within
    (rw (c.in-Some.is, c.in-Pass.is) at c.next_mode.ensures) c.pass.ensures.leads

pub returns-in-Horizontal-clause-steps : goal.returns-in-Horizontal-clause-steps
returns-in-Horizontal-clause-steps c =
    let within : c.args.reader.now.place ≤ length c.args.reader.now.bits = omega (
      arith,
      c.place-place.ensures.place,
      c.place-place.ensures.within,
    ) in
    horizontal_steps c.args.lines.now.reference c.args.reader.now c.next_mode.new.reader c.horizontal.new.reader c.args.lines.now.line
    c.horizontal.new.lines.line c.horizontal.result within (rw (c.in-Some.is, c.in-Horizontal.is) at c.next_mode.ensures)
    c.horizontal.ensures.runs

pub returns-in-Ok-clause-steps : goal.returns-in-Ok-clause-steps
returns-in-Ok-clause-steps c =
    let within : c.args.reader.now.place ≤ length c.args.reader.now.bits = omega (
      arith,
      c.place-place.ensures.place,
      c.place-place.ensures.within,
    ) in
    mode_steps c.args.lines.now.reference c.args.reader.now c.next_mode.new.reader c.args.lines.now.line c.vertical.new.self.line
    (Vertical c.in-Vertical.shift) within (rw (c.in-Some.is, c.in-Vertical.is) at c.next_mode.ensures) c.in-Ok.ensures.leads

pub returns-in-Err-clause-steps : goal.returns-in-Err-clause-steps
returns-in-Err-clause-steps c =
    let within : c.args.reader.now.place ≤ length c.args.reader.now.bits = omega (
      arith,
      c.place-place.ensures.place,
      c.place-place.ensures.within,
    ) in
    vertical_steps c.args.lines.now.reference c.place-place.result c.args.reader.now c.next_mode.new.reader c.args.lines.now.line
    c.vertical.new.self.line (Vertical c.in-Vertical.shift) (Err c.new.result) c.place-place.ensures.place within
    (rw (c.in-Some.is, c.in-Vertical.is) at c.next_mode.ensures)
    (rw c.new.ensures (inr (refl, c.in-Err.ensures.refuses)))
