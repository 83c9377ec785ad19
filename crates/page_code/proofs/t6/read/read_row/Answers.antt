use Rattle.std.proofs.Common.{arith, length, refl}
use Rattle.std.proofs.lemmas.Result.{err_from_is_err_and}
use Rattle.page_code.specs.TwoDimensions.Positions.{line_begin}
use Rattle.page_code.proofs.TwoDimensions.QuickModes.{along_ends, along_stays, along_twice}
use Rattle.page_code.proofs.t6.read.read_row.Goals as goal

pub returns-in_err-read_modes-clause-reads : goal.returns-in_err-read_modes-clause-reads
returns-in_err-read_modes-clause-reads c start begun =
    let p = err_from_is_err_and c.from_residual.result c.from_residual.ensures.1 in
    let now = c.read_modes.new in
    let reference = c.args.lines.now.reference in
    rw (p.1, p.2) (along_stays reference start now.reader now.reader now.lines.line now.lines.line c.in_err-read_modes.field-0.0
    (omega (arith, c.width-width.ensures.width, c.width-width.ensures.range))
    (rw c.read_modes.ensures.same at c.in_err-read_modes.ensures.short)
    (along_twice reference start c.args.reader.now now.reader line_begin c.args.lines.now.line now.lines.line begun
    c.read_modes.ensures.along) c.in_err-read_modes.ensures.refuses)

pub returns-clause-reads : goal.returns-clause-reads
returns-clause-reads c start begun =
    let now = c.read_modes.new in
    let reference = c.args.lines.now.reference in
    along_ends reference start now.reader now.lines.line c.in_ok-row.field-0
    (omega (arith, c.width-width.ensures.width, c.width-width.ensures.range)) c.in_ok-row.ensures.row
    (rw c.read_modes.ensures.same at c.in_ok-read_modes.ensures.whole)
    (along_twice reference start c.args.reader.now now.reader line_begin c.args.lines.now.line now.lines.line begun
    c.read_modes.ensures.along)
