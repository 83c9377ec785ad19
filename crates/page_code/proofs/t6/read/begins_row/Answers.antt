use Rattle.std.proofs.Common.{arith}
use Rattle.std.proofs.lemmas.Bool.{OnTrue_at}
use Rattle.run_tables.specs.Reading.{rest_of}
use Rattle.page_code.proofs.TwoDimensions.ZeroBits.{row_begun}
use Rattle.page_code.proofs.t6.read.begins_row.Goals as goal

pub returns-clause-eofb : goal.returns-clause-eofb
returns-clause-eofb c = (row_begun (rest_of c.args.reader.now) c.peek_57-first.result (omega arith) c.peek_57-first.ensures
    (OnTrue_at c.if-not-enough.false c.has_57-enough.ensures.yes) c.if-first-eq0.false).0

pub returns-clause-zeros : goal.returns-clause-zeros
returns-clause-zeros c = (row_begun (rest_of c.args.reader.now) c.peek_57-first.result (omega arith) c.peek_57-first.ensures
    (OnTrue_at c.if-not-enough.false c.has_57-enough.ensures.yes) c.if-first-eq0.false).1

pub returns-clause-cut : goal.returns-clause-cut
returns-clause-cut c = (row_begun (rest_of c.args.reader.now) c.peek_57-first.result (omega arith) c.peek_57-first.ensures
    (OnTrue_at c.if-not-enough.false c.has_57-enough.ensures.yes) c.if-first-eq0.false).2
