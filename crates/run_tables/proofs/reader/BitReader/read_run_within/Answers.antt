use Rattle.run_tables.proofs.reader.BitReader.read_run_within.Goals as goal

pub returns-in-Some : goal.returns-in-Some
returns-in-Some c = c.in-Some.ensures.some c.args.past
