-- An item that is made is the one that the station sends.
use Rattle.std.proofs.Common.{subst}
use Rattle.signals.specs.Signals.{plain}
use Rattle.line_sim.specs.Octets.{Carries}
use Rattle.line_sim.proofs.Items.{kept, says_carried}
use Rattle.line_sim.proofs.item.InTransit.new.Goals as goal

pub returns-in_ok-octets-in-Frame : goal.returns-in_ok-octets-in-Frame
returns-in_ok-octets-in-Frame g c =
    rw c.in-Frame.is
    (says_carried c.side.result c.kind_of-kind.result c.in_ok-octets-in-Frame.octets.items
    (plain c.in-Frame.signal) c.frame_octets_grow.ensures c.reads_what_is_written.ensures c.in_ok-octets-in-Frame.ensures
    c.kind_of-kind.ensures)

pub invariant_of-result : goal.invariant_of-result
invariant_of-result g c =
    kept g.S.Sender.sends c.kind_of-kind.result c.of-fields.result c.in_ok-octets-in-Frame.octets.items (plain c.in-Frame.signal)
    c.frame_octets_grow.ensures c.reads_what_is_written.ensures
    (subst (λ side. Carries side c.in_ok-octets-in-Frame.octets.items (plain c.in-Frame.signal)) c.side.ensures
    c.in_ok-octets-in-Frame.ensures)
    c.kind_of-kind.ensures c.of-fields.ensures
