use Rattle.terminals.proofs.After.{what_follows_is_passed}
use Rattle.terminals.proofs.laws.what_follows_is_passed.Goals as goal

pub returns : goal.returns
returns c = what_follows_is_passed c.bursts_cut.ensures.turns
