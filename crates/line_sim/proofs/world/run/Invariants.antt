use Rattle.std.proofs.Common.{◌≡◌, ◌+◌, length, take}
use Rattle.line_sim.proofs.Runs.{Given as GivenEvents}
use Rattle.line_sim.proofs.world.run.Given as goal

abbrev pub invariant-loop-event : goal.invariant-loop-event
invariant-loop-event l =
    GivenEvents l.fn.document l.fn.wish l.fn.caps (take l.event-index l.events) l.world × (length l.world.entries + l.left_out ≡ l.event-index)
