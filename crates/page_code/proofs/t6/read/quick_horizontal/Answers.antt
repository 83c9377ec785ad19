use Rattle.std.proofs.Common.{◌-◌, ◌+◌, ap, arith, length, length-drop, refl, subst}
use Rattle.std.specs.Prelude.{Ok}
use Rattle.raster.specs.declared.row.Color.{Color}
use Rattle.raster.specs.Pixels.{other}
use Rattle.page_code.specs.declared.t6.a0.A0.{A0}
use Rattle.run_tables.specs.CodeReading.{ReadsTwoRuns}
use Rattle.run_tables.specs.Reading.{Reading}
use Rattle.run_tables.specs.declared.fault.CodeFaultKind.TheVariants.{PastEnd}
use Rattle.page_code.specs.TwoDimensions.Lines.{BothLines}
use Rattle.page_code.proofs.TwoDimensions.StepsOn.{within_page, horizontal_read, horizontal_steps}
use Rattle.page_code.proofs.t6.read.quick_horizontal.Goals as goal

pub returns-clause-steps : goal.returns-clause-steps
returns-clause-steps c =
    let line = c.args.lines.now.line in
    let width = length c.args.lines.now.reference in
    let a0 = c.a0-a0.result in
    let place = ap (λ (a : A0). a.place) c.a0-a0.ensures in
    let color = ap (λ (a : A0). a.color) c.a0-a0.ensures in
    let end = c.quick_two_runs_after.new.self in
    let start : Reading = record { bits = c.args.reader.now.bits; place = c.args.reader.now.place + 3 } in
    let both = subst (λ (old : Reading). ReadsTwoRuns a0.color (c.width.result - a0.place) PastEnd
    (record { bits = old.bits; place = old.place + 3 }) end c.in-Some.a0a1 c.in-Some.a1a2) c.look_ahead-ahead.ensures
    (c.in-Some.ensures.some PastEnd) in
    let one = rw (c.width.ensures.width) at (within_page a0.color (c.width.result - a0.place) start both.between
    (Ok c.in-Some.a0a1) both.one) in
    let two = rw c.width.ensures.width at (within_page (other a0.color) (c.width.result - a0.place - c.in-Some.a0a1) both.between end
    (Ok c.in-Some.a1a2) both.two) in
    let runs = horizontal_read width a0.place line c.push_runs.new.self.line start both.between end (other a0.color) c.in-Some.a0a1
    c.in-Some.a1a2 place (omega (arith, c.requires.short, place)) (ap (λ (d : Color). other d) color) (rw color at one) two (omega arith)
    (ap (λ (b : BothLines). b.line) c.push_runs.ensures) in
    horizontal_steps c.args.lines.now.reference c.args.reader.now start end line c.push_runs.new.self.line (Ok tt)
    (omega (arith, c.requires.enough, length-drop c.args.reader.now.place c.args.reader.now.bits)) (
      c.requires.begun,
      refl,
    ) runs
