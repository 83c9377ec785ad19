use Rattle.line_sim.proofs.Fronts.{next_group, next_nothing}
use Rattle.line_sim.proofs.live.LiveCall.next_delivery.Goals as goal

pub returns-then-is_between_groups : goal.returns-then-is_between_groups
returns-then-is_between_groups c w =
    next_group c.self.inside.same c.self.inside.call c.args.self.now w c.is_between_groups.result c.self.view_is
    (c.is_empty.ensures.0 c.if-not-is_empty.false) (c.is_empty-2.ensures.0 c.if-not-is_empty-2.false) c.is_between_groups.ensures
    c.if-is_between_groups.true

pub returns : goal.returns
returns c w =
    next_nothing c.self.inside.same c.self.inside.call c.args.self.now w c.is_between_groups.result c.self.view_is
    (c.is_empty.ensures.0 c.if-not-is_empty.false) (c.is_empty-2.ensures.0 c.if-not-is_empty-2.false) c.is_between_groups.ensures
    c.if-is_between_groups.false
