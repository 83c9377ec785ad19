use Rattle.std.proofs.Common.{map, take}
use Rattle.line_sim.specs.Streams.{plain_feed}
use Rattle.line_sim.proofs.StreamSteps.{TakesAll}
use Rattle.line_sim.proofs.stream.answer_stream.Given as goal

abbrev pub invariant-loop-feed : goal.invariant-loop-feed
invariant-loop-feed l = TakesAll l.fn.caps (map plain_feed (take l.feed-index l.feeds)) l.deframer l.answerer l.turns.items
