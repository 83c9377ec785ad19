-- What holds in the loop of `pages_engine`.
use Rattle.std.proofs.Common.{◌≡◌}
use Rattle.captures.proofs.Contents.{Left}
use Rattle.captures.proofs.Following.{StoreLeft}
use Rattle.captures.proofs.Listing.{LinesLeft}
use Rattle.captures.proofs.found.pages_engine.Given as goal

abbrev pub invariant-loop-number : goal.invariant-loop-number
invariant-loop-number g l =
    (l.contents.order ≡ l.how.order) × Left (g.R.Read.remaining l.initial.reader) (g.R.Read.remaining l.reader) l.contents (λ line coming.
    LinesLeft l.how (g.W.Write.contents l.initial.writer) (g.W.Write.contents l.writer) l.number line coming
    × StoreLeft g.S.FoundStore.takes l.how.order l.initial.store l.store l.capture line coming)
