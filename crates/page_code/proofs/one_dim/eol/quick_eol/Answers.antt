use Rattle.std.proofs.Common.{drop}
use Rattle.std.proofs.lemmas.Bool.{OnTrue_at}
use Rattle.raster.specs.Packed.{bits_of}
use Rattle.page_code.proofs.OneDimension.SeesEol.{code_after, eol_seen}
use Rattle.page_code.proofs.one_dim.eol.quick_eol.Goals as goal

pub returns-clause-eol : goal.returns-clause-eol
returns-clause-eol c = eol_seen (drop c.args.place (bits_of c.args.order c.args.octets.now)) c.peek_57-word.result c.zeros_of-zeros.result
    (rw c.at-reader.ensures at c.peek_57-word.ensures)
    (rw c.at-reader.ensures at (OnTrue_at c.if-not-enough.false c.has_57-enough.ensures.yes)) c.zeros_of-zeros.ensures
    c.if-zeros-lt11.false c.if-zeros-gt45.false

pub returns-clause-code : goal.returns-clause-code
returns-clause-code c = code_after c.args.order c.args.octets.now c.args.place c.peek_57-word.result c.zeros_of-zeros.result
    c.zeros_of-more.result (rw c.at-reader.ensures at c.peek_57-word.ensures) c.if-zeros-gt45.false c.zeros_of-more.ensures
    c.if-more-ge11.false
