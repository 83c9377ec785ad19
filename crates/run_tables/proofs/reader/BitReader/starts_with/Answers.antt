use Rattle.std.proofs.Common.{◌-◌, arith}
use Rattle.std.proofs.lemmas.Bool.{OnTrue_at, OnFalse_at}
use Rattle.run_tables.specs.Reading.{rest_of}
use Rattle.run_tables.proofs.NumberLemmas.{starts_past, starts_same}
use Rattle.run_tables.proofs.reader.BitReader.starts_with.Goals as goal

pub returns-then-not-fits : goal.returns-then-not-fits
returns-then-not-fits c = starts_past c.args.count c.args.value (rest_of c.args.self.now)
    (OnFalse_at c.if-not-fits.true c.has-fits.ensures.no)

pub returns : goal.returns
returns c =
    starts_same c.args.count (64 - c.args.count) 57 (rest_of c.args.self.now) c.peek_57.result c.args.value (omega arith) (omega arith)
    (omega arith) c.requires.small
    c.peek_57.ensures (OnTrue_at c.if-not-fits.false c.has-fits.ensures.yes)
