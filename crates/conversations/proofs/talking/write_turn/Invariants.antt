-- What holds in the loop of `write_turn`.
use Rattle.conversations.proofs.Turns.{IsSeeing}
use Rattle.conversations.proofs.talking.write_turn.Given as goal

abbrev pub invariant-loop-burst : goal.invariant-loop-burst
invariant-loop-burst g l =
    IsSeeing g.F.Watch.saw_said l.fn.follower l.follower l.fn.conversation.says.frames g.S.Station.sends g.S.Station.lends l.fn.conversation
    l.conversation (g.W.Write.contents l.fn.writer) (g.W.Write.contents l.writer)
