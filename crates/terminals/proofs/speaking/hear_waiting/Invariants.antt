-- What holds in the loop of `hear_waiting`.
use Rattle.std.proofs.Common.{◌≡◌, length}
use Rattle.terminals.specs.Watching.{saw_all, seen_reading}
use Rattle.terminals.proofs.Taking.{WaitingLeft}
use Rattle.terminals.proofs.speaking.hear_waiting.Given as goal

abbrev pub invariant-loop-content : goal.invariant-loop-content
invariant-loop-content g l =
    WaitingLeft _ g.S.Station.steps g.S.Station.lends l.initial.deframer l.deframer l.initial.speaker l.speaker l.all
    × (saw_all seen_reading l.watched l.deframer.queue ≡ saw_all seen_reading l.initial.watched l.initial.deframer.queue)
    × (saw_all g.W.Watch.saw l.watch l.deframer.queue ≡ saw_all g.W.Watch.saw l.initial.watch l.initial.deframer.queue)

abbrev pub decreases-loop-content : goal.decreases-loop-content
decreases-loop-content g l = length l.deframer.queue
