-- What the check asks of the law of memory.
use Rattle.terminals.proofs.Memory.{one_frame_is_kept, open_pages_are_limited}
use Rattle.terminals.proofs.laws.little_is_held.Goals as goal

pub returns-clause-framing : goal.returns-clause-framing
returns-clause-framing c = one_frame_is_kept

pub returns-clause-open : goal.returns-clause-open
returns-clause-open c = open_pages_are_limited c.open_is_limited.ensures.open
