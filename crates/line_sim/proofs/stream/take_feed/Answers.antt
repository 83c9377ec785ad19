use Rattle.std.proofs.lemmas.Result.{on_ok_weaker}
use Rattle.line_sim.proofs.StreamSteps.{octets_taken, on_ok_both}
use Rattle.line_sim.proofs.stream.take_feed.Goals as goal

pub returns-in_ok-feed-in-Octets : goal.returns-in_ok-feed-in-Octets
returns-in_ok-feed-in-Octets c =
    rw c.in-Octets.is
    (on_ok_weaker c.hear_waiting.result
    (λ both octets has. octets_taken octets c.in-Octets.octets.now c.args.deframer.now c.feed.new.self c.hear_waiting.new.deframer
    c.args.answerer.now c.hear_waiting.new.answerer c.args.turns.now.items c.hear_waiting.new.turns.items has
    c.in_ok-feed-in-Octets.ensures.ok both.0 both.1)
    (on_ok_both c.hear_waiting.result _ _ c.hear_waiting.ensures.heard c.hear_waiting.ensures.taken))
