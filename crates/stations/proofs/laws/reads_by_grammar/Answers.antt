use Rattle.stations.proofs.PageReads.{reads_by_grammar}
use Rattle.stations.proofs.laws.reads_by_grammar.Goals as goal

pub returns : goal.returns
returns c = reads_by_grammar c.reads_exactly.ensures
