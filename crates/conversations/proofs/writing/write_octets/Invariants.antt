-- What holds in the loop of `write_octets`.
use Rattle.conversations.proofs.Written.{HasWritten}
use Rattle.conversations.proofs.writing.write_octets.Given as goal

abbrev pub invariant-loop-turn : goal.invariant-loop-turn
invariant-loop-turn g l = HasWritten l.fn.octets l.rest (g.W.Write.contents l.fn.writer) (g.W.Write.contents l.writer)
