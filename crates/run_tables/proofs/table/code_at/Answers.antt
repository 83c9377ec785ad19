use Rattle.run_tables.proofs.TableLemmas.{held_at}
use Rattle.run_tables.proofs.table.code_at.Goals as goal

pub returns : goal.returns
returns c = held_at c.args.color c.codes.result.now c.args.place _ c.codes.ensures c.requires
