use Rattle.terminals.proofs.Sent.{next_written, all_written}
use Rattle.terminals.proofs.sending.write_items.Goals as goal

pub loop-item-preserved : goal.loop-item-preserved
loop-item-preserved c =
    next_written c.args.side c.args.items c.loop-item.left c.take_next.new.self c.args.writer.now c.loop-item.writer
    c.write_item.new.writer c.in-Some.item c.loop-item.invariant c.in-Some.ensures c.in_ok-write_item.ensures

pub returns : goal.returns
returns c =
    all_written c.args.side c.args.items c.loop-item.left c.args.writer.now c.loop-item.writer c.in_default.ensures.0 c.loop-item.invariant
