use Rattle.std.proofs.lemmas.Bool.{OnTrue_at}
use Rattle.run_tables.specs.Reading.{rest_of}
use Rattle.run_tables.proofs.CodePicks.{none_long}
use Rattle.run_tables.proofs.reader.BitReader.is_cut_among.Goals as goal

pub returns-then-long : goal.returns-then-long
returns-then-long c =
    none_long c.args.color c.args.among (rest_of c.args.self.now) (OnTrue_at c.if-long.true c.has-long.ensures.yes)
