-- What holds in the loop of `write_rounds`.
use Rattle.std.proofs.Common.{drop}
use Rattle.call_pictures.proofs.Pictures.{RoundsLeft}
use Rattle.call_pictures.proofs.picture.write_rounds.Given as goal

abbrev pub invariant-loop-round : goal.invariant-loop-round
invariant-loop-round g l =
    RoundsLeft (g.W.Write.contents l.fn.writer) (g.W.Write.contents l.writer) l.y l.number l.rounds (drop l.round-index l.rounds)
