-- What holds in the loop of `next_line`.
use Rattle.conversations.proofs.LineOctets.{SoFar}
use Rattle.conversations.proofs.reading.next_line.Given as goal

abbrev pub invariant-loop-place : goal.invariant-loop-place
invariant-loop-place g l = SoFar l.line.items (g.R.Read.remaining l.initial.reader) (g.R.Read.remaining l.reader) l._place
