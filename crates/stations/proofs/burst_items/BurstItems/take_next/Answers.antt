use Rattle.std.proofs.Common.{◌≡◌, true, false, refl, sym, ap, ◌∙◌}
use Rattle.stations.specs.Bursts.{carrier_of, same_kind, front_by}
use Rattle.stations.specs.Lending.{plain_item}
use Rattle.stations.proofs.CarrierCuts.{front_none, gives_item, gives_no_item}
use Rattle.stations.proofs.burst_items.BurstItems.take_next.Goals as goal

pub returns-in_default : goal.returns-in_default
returns-in_default c =
    rw (← c.self.view_is) (
      ap (front_by c.self.inside.speed c.self.inside.carrier) (sym c.again-ahead.ensures ∙ (rw c.in_default.is at c.take_next.ensures).0) ∙
          front_none c.self.inside.speed c.self.inside.carrier,
      refl,
    )

pub returns-then-not-is_same_kind : goal.returns-then-not-is_same_kind
returns-then-not-is_same_kind c =
    let differs : same_kind (carrier_of c.self.inside.speed (plain_item c.in-Some.item)) c.self.inside.carrier ≡ false =
    ap (λ k. same_kind k c.self.inside.carrier) (sym c.carrier_of.ensures) ∙
    (sym c.is_same_kind.ensures ∙ c.if-not-is_same_kind.true) in
    rw (← c.self.view_is) (
      gives_no_item c.self.inside.speed c.self.inside.carrier (plain_item c.in-Some.item) c.self.inside.items c.take_next.new.self
          (sym c.again-ahead.ensures ∙ (rw c.in-Some.is at c.take_next.ensures).0) differs,
      refl,
    )

pub returns : goal.returns
returns c =
    let same : same_kind (carrier_of c.self.inside.speed (plain_item c.in-Some.item)) c.self.inside.carrier ≡ true =
    ap (λ k. same_kind k c.self.inside.carrier) (sym c.carrier_of.ensures) ∙
    (sym c.is_same_kind.ensures ∙ c.if-not-is_same_kind.false) in
    rw (← c.self.view_is)
    (gives_item c.self.inside.speed c.self.inside.carrier c.in-Some.item c.self.inside.items c.take_next.new.self
    (sym c.again-ahead.ensures ∙ (rw c.in-Some.is at c.take_next.ensures).0) (rw c.in-Some.is at c.take_next.ensures).1 same)
