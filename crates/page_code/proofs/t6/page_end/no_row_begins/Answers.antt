-- What the check asks of `no_row_begins`.
use Rattle.std.proofs.Common.{drop, sym}
use Rattle.raster.specs.Packed.{bits_of}
use Rattle.page_code.proofs.TwoDimensions.PageEnds.{long_ends, none_begins, short_begins}
use Rattle.page_code.proofs.t6.page_end.no_row_begins.Goals as goal

pub returns-in_default-clause-none : goal.returns-in_default-clause-none
returns-in_default-clause-none c = λ h. none_begins (drop c.args.place (bits_of c.args.order c.args.octets.now)) (sym
    c.in_default.ensures.zeros)

pub returns-then-zeros-lt7-clause-some : goal.returns-then-zeros-lt7-clause-some
returns-then-zeros-lt7-clause-some c = λ h. short_begins (drop c.args.place (bits_of c.args.order c.args.octets.now)) c.in-Some.zeros (sym
    c.in-Some.ensures.zeros) c.if-zeros-lt7.true

pub returns-clause-none : goal.returns-clause-none
returns-clause-none c = λ h. long_ends (drop c.args.place (bits_of c.args.order c.args.octets.now)) c.in-Some.zeros (sym
    c.in-Some.ensures.zeros) c.if-zeros-lt7.false
