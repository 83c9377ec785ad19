-- The theorem is that of the proofs over whole runs.
use Rattle.line_sim.proofs.WholeRuns.{line_holds, events_move, runs_move, runs_are_safe}
use Rattle.line_sim.proofs.InSteps.{stations_in_step}
use Rattle.line_sim.proofs.WholeBlocks.{whole_blocks_accepted}
use Rattle.line_sim.proofs.Writable.{lines_can_be_written}
use Rattle.line_sim.proofs.laws.headline.Goals as goal

pub returns-clause-facts : goal.returns-clause-facts
returns-clause-facts c = line_holds (c.layers_hold.ensures, c.signals_hold.ensures)

pub returns-clause-moves : goal.returns-clause-moves
returns-clause-moves c = events_move (c.layers_hold.ensures, c.signals_hold.ensures)

pub returns-clause-runs : goal.returns-clause-runs
returns-clause-runs c = runs_move (c.layers_hold.ensures, c.signals_hold.ensures)

pub returns-clause-safe : goal.returns-clause-safe
returns-clause-safe c = runs_are_safe (c.layers_hold.ensures, c.signals_hold.ensures)

pub returns-clause-whole : goal.returns-clause-whole
returns-clause-whole c = whole_blocks_accepted (c.layers_hold.ensures, c.signals_hold.ensures)

pub returns-clause-written : goal.returns-clause-written
returns-clause-written c = lines_can_be_written (c.layers_hold.ensures, c.signals_hold.ensures)

pub returns-clause-steps : goal.returns-clause-steps
returns-clause-steps c = stations_in_step (c.layers_hold.ensures, c.signals_hold.ensures)
