-- What holds in the loop of `list_engine`.
use Rattle.std.proofs.Common.{◌≡◌}
use Rattle.captures.proofs.Contents.{Left}
use Rattle.captures.proofs.Listing.{LinesLeft}
use Rattle.captures.proofs.frames.list_engine.Given as goal

abbrev pub invariant-loop-number : goal.invariant-loop-number
invariant-loop-number g l =
    (l.contents.order ≡ l.how.order) × Left (g.R.Read.remaining l.initial.reader) (g.R.Read.remaining l.reader) l.contents
    (LinesLeft l.how (g.W.Write.contents l.initial.writer) (g.W.Write.contents l.writer) l.number)
