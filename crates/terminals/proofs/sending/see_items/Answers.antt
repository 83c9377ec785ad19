-- What the check asks of `see_items`.
use Rattle.terminals.proofs.Sent.{all_seen, next_item_seen, none_seen}
use Rattle.terminals.proofs.sending.see_items.Goals as goal

pub loop-item-init : goal.loop-item-init
loop-item-init g c = none_seen g.W.Watch.saw_said c.args.side c.args.items c.args.watch.now

pub loop-item-preserved : goal.loop-item-preserved
loop-item-preserved g c =
    next_item_seen g.W.Watch.saw_said c.args.side c.args.items c.loop-item.left c.take_next.new.self c.args.watch.now c.loop-item.watch
    c.see_item.new.watch c.in-Some.item c.loop-item.invariant c.in-Some.ensures c.see_item.ensures

pub returns : goal.returns
returns g c =
    all_seen g.W.Watch.saw_said c.args.side c.args.items c.loop-item.left c.args.watch.now c.loop-item.watch c.in_default.ensures.0
    c.loop-item.invariant
