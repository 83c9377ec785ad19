use Rattle.line_sim.proofs.Fcds.{burst_counted}
use Rattle.line_sim.proofs.call.Call.fcds.Goals as goal

pub returns-in-Burst : goal.returns-in-Burst
returns-in-Burst c t fits =
    burst_counted c.in-Burst.map c.args.turn.now t c.frames.result c.fcd_count.result c.has_32_octets.ensures c.in-Burst.is
    (c.frames.ensures t fits) c.fcd_count.ensures
