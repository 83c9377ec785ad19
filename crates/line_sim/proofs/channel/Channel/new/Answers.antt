use Rattle.line_sim.proofs.channel.Channel.new.Goals as goal

pub invariant_of-result : goal.invariant_of-result
invariant_of-result g c = c.new_is_idle.ensures c.new-2.result c.new-2.ensures
