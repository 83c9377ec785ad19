use Rattle.calls.proofs.BadCallsEnd.{bad_calls_end}
use Rattle.calls.proofs.laws.bad_calls_end.Goals as goal

pub returns : goal.returns
returns c = bad_calls_end c.speeds_hold.ensures c.callers_end.ensures.blocks
