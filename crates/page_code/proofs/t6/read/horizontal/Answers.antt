use Rattle.std.proofs.Common.{◌≡◌, ◌-◌, ◌∙◌, ap, arith, length}
use Rattle.std.specs.Prelude.{Ok, Err}
use Rattle.std.proofs.lemmas.Result.{err_from_is_err_and}
use Rattle.raster.specs.declared.row.Color.{Color}
use Rattle.raster.specs.Pixels.{other}
use Rattle.page_code.specs.declared.t6.a0.A0.{A0}
use Rattle.page_code.specs.TwoDimensions.Lines.{BothLines}
use Rattle.page_code.proofs.TwoDimensions.StepsOn.{within_page, horizontal_empty, horizontal_read, horizontal_first_refused}
use Rattle.page_code.proofs.TwoDimensions.StepsOn.{horizontal_second_refused}
use Rattle.page_code.proofs.t6.read.horizontal.Goals as goal

pub returns-in_err-first-clause-runs : goal.returns-in_err-first-clause-runs
returns-in_err-first-clause-runs c =
    let p = err_from_is_err_and c.from_residual.result c.from_residual.ensures.1 in
    let line = c.args.lines.now.line in
    let width = length c.args.lines.now.reference in
    let a0 = c.a0-a0.result in
    let place = ap (λ (a : A0). a.place) c.a0-a0.ensures in
    let color = ap (λ (a : A0). a.color) c.a0-a0.ensures in
    let one = rw (color, c.width.ensures.width) at (within_page a0.color (c.width.result - a0.place) c.args.reader.now
    c.read_run_within.new.self (Err c.in_err-first.field-0.0) c.in_err-first.ensures) in
    rw (p.1, p.2) (horizontal_first_refused width a0.place line line c.args.reader.now c.read_run_within.new.self
    c.in_err-first.field-0.0 place (omega (arith, c.requires, place)) one)

pub returns-in_err-second-clause-runs : goal.returns-in_err-second-clause-runs
returns-in_err-second-clause-runs c =
    let p = err_from_is_err_and c.from_residual-in_err-second.result c.from_residual-in_err-second.ensures.1 in
    let line = c.args.lines.now.line in
    let width = length c.args.lines.now.reference in
    let a0 = c.a0-a0.result in
    let place = ap (λ (a : A0). a.place) c.a0-a0.ensures in
    let color = ap (λ (a : A0). a.color) c.a0-a0.ensures in
    let one = rw (color, c.width.ensures.width) at (within_page a0.color (c.width.result - a0.place) c.args.reader.now
    c.read_run_within.new.self (Ok c.in_ok-first.first) c.in_ok-first.ensures) in
    let two = rw c.width.ensures.width at (within_page c.other-other.result (c.width.result - a0.place - c.in_ok-first.first)
    c.read_run_within.new.self c.read_run_within-2.new.self (Err c.in_err-second.field-0.0) c.in_err-second.ensures) in
    rw (p.1, p.2) (horizontal_second_refused width a0.place line line c.args.reader.now c.read_run_within.new.self
    c.read_run_within-2.new.self c.other-other.result c.in_ok-first.first c.in_err-second.field-0.0 place
    (omega (arith, c.requires, place)) (c.other-other.ensures ∙ ap (λ (d : Color). other d) color) one two)

pub returns-then-first-second-eq0-clause-runs : goal.returns-then-first-second-eq0-clause-runs
returns-then-first-second-eq0-clause-runs c =
    let line = c.args.lines.now.line in
    let width = length c.args.lines.now.reference in
    let a0 = c.a0-a0.result in
    let place = ap (λ (a : A0). a.place) c.a0-a0.ensures in
    let color = ap (λ (a : A0). a.color) c.a0-a0.ensures in
    let one = rw (color, c.width.ensures.width) at (within_page a0.color (c.width.result - a0.place) c.args.reader.now
    c.read_run_within.new.self (Ok c.in_ok-first.first) c.in_ok-first.ensures) in
    let two = rw c.width.ensures.width at (within_page c.other-other.result (c.width.result - a0.place - c.in_ok-first.first)
    c.read_run_within.new.self c.read_run_within-2.new.self (Ok c.in_ok-second.second) c.in_ok-second.ensures) in
    let none : c.in_ok-first.first ≡ 0 = omega (arith, c.if-first-second-eq0.true) in
    let none' : c.in_ok-second.second ≡ 0 = omega (arith, c.if-first-second-eq0.true) in
    rw (c.new.ensures, c.place-after.ensures.place) (horizontal_empty width a0.place line line c.args.reader.now
    c.read_run_within.new.self c.read_run_within-2.new.self c.other-other.result c.in_ok-first.first c.in_ok-second.second place
    (omega (arith, c.requires, place)) (c.other-other.ensures ∙ ap (λ (d : Color). other d) color) one two none none')

pub returns-clause-runs : goal.returns-clause-runs
returns-clause-runs c =
    let line = c.args.lines.now.line in
    let width = length c.args.lines.now.reference in
    let a0 = c.a0-a0.result in
    let place = ap (λ (a : A0). a.place) c.a0-a0.ensures in
    let color = ap (λ (a : A0). a.color) c.a0-a0.ensures in
    let one = rw (color, c.width.ensures.width) at (within_page a0.color (c.width.result - a0.place) c.args.reader.now
    c.read_run_within.new.self (Ok c.in_ok-first.first) c.in_ok-first.ensures) in
    let two = rw c.width.ensures.width at (within_page c.other-other.result (c.width.result - a0.place - c.in_ok-first.first)
    c.read_run_within.new.self c.read_run_within-2.new.self (Ok c.in_ok-second.second) c.in_ok-second.ensures) in
    horizontal_read width a0.place line c.push_runs.new.self.line c.args.reader.now c.read_run_within.new.self c.read_run_within-2.new.self
    c.other-other.result c.in_ok-first.first c.in_ok-second.second place (omega (arith, c.requires, place)) (c.other-other.ensures ∙ ap (λ
    (d : Color). other d) color)
    one two (omega arith) (ap (λ (b : BothLines). b.line) c.push_runs.ensures)
