use Rattle.signals.specs.Signals.{plain}
use Rattle.stations.specs.Inputs.{framed}
use Rattle.stations.specs.Lending.{fcds_left}
use Rattle.stations.proofs.ItemLaws.{more_follows}
use Rattle.stations.proofs.lending.Items.take_next.Goals as goal

pub returns-in-Some : goal.returns-in-Some
returns-in-Some c =
    rw (← c.self.view_is)
    (more_follows (fcds_left c.self.inside.marked)
    (fcds_left c.take_marked.new.marked) c.self.inside.rcps c.self.inside.end c.self.inside.training (λ none. (c.self.invariant none).0)
    (framed (plain c.in-Some.signal)) c.in-Some.ensures)
