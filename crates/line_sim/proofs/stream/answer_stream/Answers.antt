use Rattle.std.proofs.Common.{refl}
use Rattle.line_sim.proofs.StreamSteps.{next_taken, none_taken}
use Rattle.line_sim.proofs.stream.answer_stream.Goals as goal

pub loop-feed-init : goal.loop-feed-init
loop-feed-init c =
    none_taken c.args.caps c.new-deframer.result c.new-answerer.result.0 c.push.new.self.items
    c.new-deframer.ensures c.new-answerer.ensures.station
    (rw (c.in_ok-push.ensures.items, c.new-turns.ensures.items, c.new-answerer.ensures.turn) refl)

pub loop-feed-preserved : goal.loop-feed-preserved
loop-feed-preserved c =
    next_taken c.args.caps c.args.feeds.now c.loop-feed.feed-index _ c.loop-feed.deframer c.take_feed.new.deframer
    c.loop-feed.answerer c.take_feed.new.answerer c.loop-feed.turns.items c.take_feed.new.turns.items
    c.loop-feed-test.true c.loop-feed.invariant c.in_ok-take_feed.ensures
