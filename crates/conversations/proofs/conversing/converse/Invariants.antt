-- What holds in the loop of `converse`.
use Rattle.conversations.proofs.TalkedLines.{IsFollowing, IsTalking}
use Rattle.conversations.proofs.conversing.converse.Given as goal
use Rattle.conversations.specs.Conversations.{behaviour}
use Rattle.conversations.specs.Conversing.{talk_state, talker}
use Rattle.conversations.specs.Talking.{following, keeping}

abbrev pub invariant-loop-number : goal.invariant-loop-number
invariant-loop-number g l =
    IsTalking
    (talker (behaviour g.S.Station.sends g.S.Station.steps g.S.Station.lends g.S.Stoppable.shows g.S.Stoppable.cut_off g.S.Stoppable.stop_says)
    (keeping g.K.Keeper.keeps g.K.Keeper.takes g.K.Keeper.tells) g.S.Station.lends)
    (talk_state (g.R.Read.remaining l.fn.reader) l.fn.conversation l.fn.keeper (g.W.Write.contents l.fn.writer))
    (talk_state (g.R.Read.remaining l.reader) l.conversation l.keeper (g.W.Write.contents l.writer)) l.number
    × IsFollowing
    (talker (behaviour g.S.Station.sends g.S.Station.steps g.S.Station.lends g.S.Stoppable.shows g.S.Stoppable.cut_off g.S.Stoppable.stop_says)
    (keeping g.K.Keeper.keeps g.K.Keeper.takes g.K.Keeper.tells) g.S.Station.lends)
    (following g.F.Watch.saw g.F.Watch.saw_said g.F.Follower.notes g.F.Follower.judges)
    (talk_state (g.R.Read.remaining l.fn.reader) l.fn.conversation l.fn.keeper (g.W.Write.contents l.fn.writer))
    (talk_state (g.R.Read.remaining l.reader) l.conversation l.keeper (g.W.Write.contents l.writer)) l.fn.follower l.follower
