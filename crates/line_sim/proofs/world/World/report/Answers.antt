-- What holds of every report holds of that of a world.
use Rattle.std.proofs.Common.{subst}
use Rattle.line_sim.specs.Represents.{IsReached}
use Rattle.line_sim.proofs.Clauses.{report_keeps}
use Rattle.line_sim.proofs.world.World.report.Goals as goal

pub returns-clause-keeps : goal.returns-clause-keeps
returns-clause-keeps c =
    report_keeps (c.layers_hold.ensures, c.signals_hold.ensures)
    (c.headline.ensures.facts, c.headline.ensures.steps, c.headline.ensures.runs, c.headline.ensures.safe, c.counted.ensures.runs)
    c.args.self c.into_report.result (subst IsReached c.self.view_is c.self.invariant.0) c.into_report.ensures.tells
