-- What holds in the loop of `after_items`.
use Rattle.line_sim.specs.Octets.{sender_to, under_way_to}
use Rattle.call_tallies.proofs.LineTimes.{Through}
use Rattle.call_tallies.proofs.line_time.after_items.Given as goal

abbrev pub invariant-loop-place : goal.invariant-loop-place
invariant-loop-place l = Through (sender_to l.to) (under_way_to l.to l.live) l.first l.place l.fn.clock l.clock
