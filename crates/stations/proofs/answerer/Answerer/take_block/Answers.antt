-- A block that is its page's last is taken as the table has it.
use Rattle.stations.proofs.PageReads.{takes_page}
use Rattle.stations.proofs.answerer.Answerer.take_block.Goals as goal

pub returns-in_default : goal.returns-in_default
returns-in_default c = rw (takes_page _ c.args.pps.ends c.args.pps.mark _ c.in_default.not-Null) c.take_page.ensures
