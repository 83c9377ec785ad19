use Rattle.conversations.proofs.OneLine.{reads_what_is_sent, sent_fits_a_line}
use Rattle.conversations.proofs.laws.lines.reads_what_is_sent.Goals as goal

pub returns-clause-reads : goal.returns-clause-reads
returns-clause-reads c = reads_what_is_sent

pub returns-clause-fits : goal.returns-clause-fits
returns-clause-fits c = sent_fits_a_line
