use Rattle.std.proofs.Common.{◌∙◌, ap, arith, length, refl}
use Rattle.std.proofs.lemmas.Result.{err_from_is_err_and}
use Rattle.page_code.specs.TwoDimensions.Lines.{BothLines}
use Rattle.page_code.proofs.TwoDimensions.QuickModes.{along_ends, along_stays}
use Rattle.page_code.proofs.t6.read.read_line.Goals as goal

pub returns-in_err-read_modes-clause-refuses : goal.returns-in_err-read_modes-clause-refuses
returns-in_err-read_modes-clause-refuses c =
    let p = err_from_is_err_and c.from_residual.result c.from_residual.ensures.1 in
    let now = c.read_modes.new in
    rw (p.1, p.2) (along_stays c.args.lines.now.reference c.args.reader.now now.reader now.reader now.lines.line now.lines.line
    c.in_err-read_modes.field-0.0 (omega (arith, c.width-width.ensures.width, c.width-width.ensures.range))
    (rw (c.read_modes.ensures.same, c.begin.ensures) at c.in_err-read_modes.ensures.short)
    (rw c.begin.ensures at c.read_modes.ensures.along) (rw c.begin.ensures at c.in_err-read_modes.ensures.refuses))

pub returns-clause-reads : goal.returns-clause-reads
returns-clause-reads c =
    let now = c.read_modes.new in
    along_ends c.args.lines.now.reference c.args.reader.now now.reader now.lines.line now.lines.line.pixels
    (omega (arith, c.width-width.ensures.width, c.width-width.ensures.range)) refl
    (rw (c.read_modes.ensures.same, c.begin.ensures) at c.in_ok-read_modes.ensures.whole)
    (rw c.begin.ensures at c.read_modes.ensures.along)
