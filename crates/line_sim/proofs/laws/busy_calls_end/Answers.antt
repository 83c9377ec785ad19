use Rattle.line_sim.proofs.BusyCalls.{busy_calls_are_safe, busy_calls_end, busy_steps_are_events}
use Rattle.line_sim.proofs.laws.busy_calls_end.Goals as goal

pub returns-clause-busy : goal.returns-clause-busy
returns-clause-busy c = busy_calls_end c.speeds_hold.ensures c.callers_end.ensures.blocks

pub returns-clause-safe : goal.returns-clause-safe
returns-clause-safe c = busy_calls_are_safe c.headline.ensures.safe

pub returns-clause-steps : goal.returns-clause-steps
returns-clause-steps c = busy_steps_are_events
