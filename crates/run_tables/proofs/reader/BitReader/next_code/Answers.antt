use Rattle.std.proofs.Common.{refl}
use Rattle.run_tables.proofs.CodeReads.{refuses_pick, stands_pick}
use Rattle.run_tables.proofs.reader.BitReader.next_code.Goals as goal

pub returns-in_default-clause-reads : goal.returns-in_default-clause-reads
returns-in_default-clause-reads c = (
  refuses_pick c.args.color c.args.among c.args.self.now _ c.in_default.ensures.none c.refusal.ensures,
  refl,
)

pub returns-clause-reads : goal.returns-clause-reads
returns-clause-reads c = (
  stands_pick c.args.color c.args.among _ _ c.in-Some.ensures.found,
  rw (← c.in-Some.ensures.length) c.skip.ensures,
)
