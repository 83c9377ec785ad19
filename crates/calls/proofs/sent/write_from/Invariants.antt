-- What holds in the loop of `write_from`.
use Rattle.line_sim.specs.Octets.{under_way_to}
use Rattle.calls.proofs.SentItems.{Upto}
use Rattle.calls.proofs.sent.write_from.Given as goal

abbrev pub invariant-loop-place : goal.invariant-loop-place
invariant-loop-place g l =
    Upto l.to (under_way_to l.to l.live) l.first l.place (g.T.CallWriter.written l.fn.writer) (g.T.CallWriter.written l.writer)
