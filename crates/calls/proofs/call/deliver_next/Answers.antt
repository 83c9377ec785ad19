-- What the check asks of `deliver_next`.
use Rattle.calls.proofs.CallSteps.{group_next, group_stops, item_next, nothing_next}
use Rattle.calls.proofs.call.deliver_next.Goals as goal

pub returns-in_ok-item_refused-in-Item-clause-told : goal.returns-in_ok-item_refused-in-Item-clause-told
returns-in_ok-item_refused-in-Item-clause-told g c w shows =
    item_next c.args.live.now _ _ w c.args.number.now _ (g.T.CallWriter.written c.args.writer.now) _ _ shows (c.in-Item.ensures w shows)
    (c.in_ok-item_refused-in-Item.ensures.told w shows)

pub returns-then-group_refused-clause-told : goal.returns-then-group_refused-clause-told
returns-then-group_refused-clause-told g c w shows =
    group_stops _ w c.args.number.now _ (g.T.CallWriter.written c.args.writer.now) _ _ c.if-group_refused.true (c.in-Group.ensures w shows)
    (c.in_ok-group_refused-in-Group.ensures.told w shows)

pub returns-in_ok-dis_refused-in-Group-clause-told : goal.returns-in_ok-dis_refused-in-Group-clause-told
returns-in_ok-dis_refused-in-Group-clause-told g c w shows =
    group_next _ _ w c.args.number.now _ _ (g.T.CallWriter.written c.args.writer.now) _ _ _ _ c.if-group_refused.false
    (c.in-Group.ensures w shows) (c.in_ok-group_refused-in-Group.ensures.told w shows) c.in_ok-dis_refused-in-Group.ensures.told

pub returns-in-Nothing-clause-told : goal.returns-in-Nothing-clause-told
returns-in-Nothing-clause-told g c w shows =
    nothing_next c.args.live.now w c.args.number.now (g.T.CallWriter.written c.args.writer.now) shows (c.in-Nothing.ensures w shows)
