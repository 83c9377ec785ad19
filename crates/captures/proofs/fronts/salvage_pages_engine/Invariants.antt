-- What holds in the loop of `salvage_pages_engine`.
use Rattle.std.proofs.Common.{◌≡◌}
use Rattle.captures.proofs.Contents.{Left}
use Rattle.captures.proofs.Listing.{LinesLeft}
use Rattle.captures.proofs.Salvaging.{SalvageLeft}
use Rattle.captures.proofs.fronts.salvage_pages_engine.Given as goal

abbrev pub invariant-loop-number : goal.invariant-loop-number
invariant-loop-number g l =
    (l.contents.order ≡ l.how.order) × Left (g.R.Read.remaining l.initial.reader) (g.R.Read.remaining l.reader) l.contents (λ line coming.
    LinesLeft l.how (g.W.Write.contents l.initial.writer) (g.W.Write.contents l.writer) l.number line coming
    × SalvageLeft g.S.FoundStore.takes g.S.FrontStore.fronts l.how.order l.initial.store l.store l.capture line coming)
