use Rattle.std.proofs.Common.{◌≡◌, [], ap, ◌∙◌}
use Rattle.stations.specs.Bursts.{bursts_of, front_by, rest_by}
use Rattle.stations.proofs.CarrierCuts.{bursts_none, gives_next}
use Rattle.stations.proofs.bursts.Bursts.take_next.Goals as goal

pub returns-in_default : goal.returns-in_default
returns-in_default c =
    let none : bursts_of c.self.inside.speed c.self.inside.items ≡ [] =
    ap (bursts_of c.self.inside.speed) (rw c.in_default.is at c.first.ensures) ∙ bursts_none c.self.inside.speed in
    rw (← c.self.view_is) (none, none)

pub returns : goal.returns
returns c =
    rw (← c.self.view_is)
    (gives_next c.self.inside.speed c.carrier_of-carrier.result c.in-Some.first c.self.inside.items
    (rw c.in-Some.is at c.first.ensures).0 c.pass.new.items c.new-items.result c.are_through-last.result
    (rw c.in-Some.is at c.first.ensures).1 c.carrier_of-carrier.ensures
    (c.new-items.ensures ∙ ap (λ l. record {
      burst = front_by c.self.inside.speed c.carrier_of-carrier.result l;
      after = rest_by c.self.inside.speed c.carrier_of-carrier.result l;
    }) c.again.ensures)
    c.pass.ensures c.are_through-last.ensures)
