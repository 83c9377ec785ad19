use Rattle.run_tables.proofs.PendingLemmas.{cut_inside, cut_clear}
use Rattle.run_tables.proofs.writer.first_of.Goals as goal

pub returns-clause-same : goal.returns-clause-same
returns-clause-same c k h = cut_inside c.args.word c.args.count k c.requires h

pub returns-clause-clear : goal.returns-clause-clear
returns-clause-clear c = cut_clear c.args.word c.args.count c.requires
