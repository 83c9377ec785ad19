-- What the check asks of `write_rounds`.
use Rattle.call_pictures.proofs.Pictures.{one_round}
use Rattle.call_pictures.proofs.picture.write_rounds.Goals as goal

pub loop-round-preserved : goal.loop-round-preserved
loop-round-preserved g c =
    one_round (g.W.Write.contents c.args.writer.now) (g.W.Write.contents c.loop-round.writer) (g.W.Write.contents c.write_round.new.writer)
    c.loop-round.y c.loop-round.number c.in_ok-y.y c.in_ok-number.number c.args.rounds.now c.args.rounds.now c.loop-round.round-index
    c.round-item.result c.in_ok-round_height.field-0 c.loop-round.invariant c.loop-round-test.true c.round-item.is
    c.in_ok-number.ensures.text c.in_ok-round_height.ensures.height c.in_ok-y.ensures.sum c.in_ok-number.ensures.next
