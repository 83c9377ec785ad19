-- What holds in the loop of `withhold`.
use Rattle.conversations.proofs.Turns.{HasGiven}
use Rattle.conversations.proofs.talking.withhold.Given as goal

abbrev pub invariant-loop-burst : goal.invariant-loop-burst
invariant-loop-burst g l = HasGiven g.S.Station.sends g.S.Station.lends l.fn.conversation l.conversation
