use Rattle.line_sim.specs.Entries.{count_fcds}
use Rattle.line_sim.proofs.Sending.{all_counted}
use Rattle.line_sim.proofs.channel.fcd_count.Goals as goal

pub returns : goal.returns
returns c = all_counted c.loop-item.count
    (count_fcds c.args.items) c.loop-item.items c.in_default.ensures.0 c.loop-item.invariant.few c.loop-item.invariant.counted
