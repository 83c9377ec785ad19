use Rattle.stations.proofs.PageReads.{reads_by_grammar}
use Rattle.stations.proofs.RunLaws.{steps_store_open, stored_is_read}
use Rattle.stations.proofs.laws.stored_is_read.Goals as goal

pub returns-clause-steps : goal.returns-clause-steps
returns-clause-steps c = steps_store_open (reads_by_grammar c.reads_exactly.ensures)

pub returns-clause-runs : goal.returns-clause-runs
returns-clause-runs c = stored_is_read (reads_by_grammar c.reads_exactly.ensures)
