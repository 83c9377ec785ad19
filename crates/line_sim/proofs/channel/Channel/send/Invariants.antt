use Rattle.std.proofs.Common.{length}
use Rattle.line_sim.proofs.Sending.{HasSent}
use Rattle.line_sim.proofs.channel.Channel.send.Given as goal

abbrev pub invariant-loop-item : goal.invariant-loop-item
invariant-loop-item g l = HasSent l.fn.self l.self l.fn.items l.items

abbrev pub decreases-loop-item : goal.decreases-loop-item
decreases-loop-item g l = length l.items
