use Rattle.run_tables.proofs.PairLemmas.{pair_held}
use Rattle.run_tables.proofs.pair_table.entry.Goals as goal

pub bounds-held-next : goal.bounds-held-next
bounds-held-next c = (pair_held _ c.args.next c.entries-held.ensures c.requires).0

pub returns : goal.returns
returns c = (pair_held _ c.args.next c.entries-held.ensures c.requires).1
