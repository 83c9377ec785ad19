use Rattle.stations.proofs.AnswererKeeping.{answerers_keep}
use Rattle.stations.proofs.AnswererTaking.{answerers_take, counts_last}
use Rattle.stations.proofs.laws.answerers_keep.Goals as goal

pub returns-clause-keep : goal.returns-clause-keep
returns-clause-keep c = answerers_keep c.reads_by_grammar.ensures

pub returns-clause-take : goal.returns-clause-take
returns-clause-take c = answerers_take c.reads_by_grammar.ensures

pub returns-clause-counts : goal.returns-clause-counts
returns-clause-counts c = counts_last
