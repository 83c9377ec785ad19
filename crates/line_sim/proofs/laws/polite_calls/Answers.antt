-- A whole call leads to the end that a polite run comes to.
use Rattle.line_sim.proofs.Agreeing.{groups_are_agreed}
use Rattle.line_sim.proofs.PoliteSteps.{polite_events}
use Rattle.line_sim.proofs.PoliteGroups.{polite_calls}
use Rattle.line_sim.proofs.laws.polite_calls.Goals as goal

pub returns-clause-events : goal.returns-clause-events
returns-clause-events c = polite_events

pub returns-clause-groups : goal.returns-clause-groups
returns-clause-groups c = groups_are_agreed

pub returns-clause-calls : goal.returns-clause-calls
returns-clause-calls c = polite_calls (c.layers_hold.ensures, c.signals_hold.ensures)
