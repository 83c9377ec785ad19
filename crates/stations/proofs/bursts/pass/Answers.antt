use Rattle.std.proofs.Common.{◌≡◌, true, false, sym, ap, ◌∙◌}
use Rattle.stations.specs.Bursts.{carrier_of, same_kind}
use Rattle.stations.specs.Lending.{plain_item}
use Rattle.stations.proofs.CarrierCuts.{passes_none, passes_no_more, passes_one}
use Rattle.stations.proofs.bursts.pass.Goals as goal

pub returns-in_default : goal.returns-in_default
returns-in_default c =
    passes_none c.args.speed c.args.carrier c.loop-item.items c.args.items.now
    (sym c.again-ahead.ensures ∙ (rw c.in_default.is at c.take_next.ensures).0) c.loop-item.invariant

pub returns-then-not-is_same_kind : goal.returns-then-not-is_same_kind
returns-then-not-is_same_kind c =
    let differs : same_kind (carrier_of c.args.speed (plain_item c.in-Some.item)) c.args.carrier ≡ false =
    ap (λ k. same_kind k c.args.carrier) (sym c.carrier_of.ensures) ∙ (sym c.is_same_kind.ensures ∙ c.if-not-is_same_kind.true) in
    passes_no_more c.args.speed c.args.carrier (plain_item c.in-Some.item) c.loop-item.items c.take_next.new.self c.args.items.now
    (sym c.again-ahead.ensures ∙ (rw c.in-Some.is at c.take_next.ensures).0) differs c.loop-item.invariant

pub loop-item-preserved : goal.loop-item-preserved
loop-item-preserved c =
    let same : same_kind (carrier_of c.args.speed (plain_item c.in-Some.item)) c.args.carrier ≡ true =
    ap (λ k. same_kind k c.args.carrier) (sym c.carrier_of.ensures) ∙ (sym c.is_same_kind.ensures ∙ c.if-not-is_same_kind.false) in
    passes_one c.args.speed c.args.carrier (plain_item c.in-Some.item) c.loop-item.items c.take_next.new.self c.args.items.now
    (sym c.again-ahead.ensures ∙ (rw c.in-Some.is at c.take_next.ensures).0) same c.loop-item.invariant
