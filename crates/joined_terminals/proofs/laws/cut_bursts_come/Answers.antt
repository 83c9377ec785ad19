use Rattle.joined_terminals.proofs.Coming.{cut_pieces_come}
use Rattle.joined_terminals.proofs.laws.cut_bursts_come.Goals as goal

pub returns : goal.returns
returns c = cut_pieces_come c.cuts_change_nothing.ensures
