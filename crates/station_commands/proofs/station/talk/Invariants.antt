-- What holds in the loop of `talk`.
use Rattle.std.specs.Prelude.{◌≡◌}
use Rattle.station_commands.specs.Talks.{AfterLosses}
use Rattle.conversations.specs.Conversations.{behaviour}
use Rattle.conversations.specs.Conversing.{talker}
use Rattle.conversations.specs.Talking.{keeping}
use Rattle.station_commands.proofs.station.talk.Given as goal

abbrev pub invariant-loop-lost : goal.invariant-loop-lost
invariant-loop-lost g l =
    (AfterLosses (talker (behaviour g.S.Station.sends g.S.Station.steps g.S.Station.lends g.S.Stoppable.shows g.S.Stoppable.cut_off g.S.Stoppable.stop_says)
    (keeping g.K.Keeper.keeps g.K.Keeper.takes g.K.Keeper.tells) g.S.Station.lends) l._lost l.fn.conversation l.fn.keeper l.conversation
    l.keeper) × (l._lost ≡ 0 → l.notes ≡ l.fn.notes)
