-- What holds in the loop of `repeat`.
use Rattle.std.proofs.Common.{◌≤◌}
use Rattle.line_sim.specs.Line.{World}
use Rattle.line_sim.specs.Represents.{Shows}
use Rattle.calls.specs.Calls.{TellsCommand}
use Rattle.calls.specs.declared.script.Command.TheVariants.{Events}
use Rattle.calls.proofs.call.repeat.Given as goal

abbrev pub invariant-loop-time : goal.invariant-loop-time
invariant-loop-time g l = (l._time ≤ l.count) × ((w : World) → Shows l.fn.live w →
    TellsCommand (Events l.event l._time) w l.live l.fn.number l.number (g.T.CallWriter.written l.fn.writer)
    (g.T.CallWriter.written l.writer))
