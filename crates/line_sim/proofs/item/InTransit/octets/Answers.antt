-- The octets that are kept are those of the item.
use Rattle.line_sim.proofs.Items.{octets_said}
use Rattle.line_sim.proofs.item.InTransit.octets.Goals as goal

pub returns : goal.returns
returns g c =
    rw (← c.self.view_is, c.deref.ensures.value)
    (octets_said g.S.Sender.sends c.self.inside.kind c.self.inside.octets.items c.frame_octets_grow.ensures
    c.reads_what_is_written.ensures c.self.invariant.0)
