use Rattle.terminals.proofs.ClockLaws.{flags_last, waits_last}
use Rattle.terminals.proofs.laws.durations_are_t30s.Goals as goal

pub returns-clause-waits : goal.returns-clause-waits
returns-clause-waits c = waits_last

pub returns-clause-flags : goal.returns-clause-flags
returns-clause-flags c = flags_last
