-- The kind that is kept is that of the item.
use Rattle.line_sim.proofs.Items.{kind_said}
use Rattle.line_sim.proofs.item.InTransit.kind.Goals as goal

pub returns : goal.returns
returns g c =
    rw (← c.self.view_is)
    (kind_said g.S.Sender.sends c.self.inside.kind c.self.inside.octets.items c.frame_octets_grow.ensures
    c.reads_what_is_written.ensures c.self.invariant.0)
