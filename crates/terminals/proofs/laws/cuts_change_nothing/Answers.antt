use Rattle.terminals.proofs.Cutting.{cuts_change_nothing}
use Rattle.terminals.proofs.laws.cuts_change_nothing.Goals as goal

pub returns : goal.returns
returns c = cuts_change_nothing c.bits_join.ensures c.good_contents_stay.ensures
