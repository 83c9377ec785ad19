use Rattle.line_sim.proofs.Streams.{cuts_change_nothing, stored_is_said}
use Rattle.line_sim.proofs.laws.foreign_peers.Goals as goal

pub returns-clause-cut : goal.returns-clause-cut
returns-clause-cut c = cuts_change_nothing c.bits_join.ensures c.good_contents_stay.ensures

pub returns-clause-stored : goal.returns-clause-stored
returns-clause-stored c = stored_is_said c.bits_join.ensures c.good_contents_stay.ensures c.stored_is_read.ensures.runs
