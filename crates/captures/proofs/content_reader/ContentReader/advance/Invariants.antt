-- What holds in the loop of `advance`.
use Rattle.std.proofs.Common.{◌≡◌}
use Rattle.captures.specs.Contents.{HasRead, ReadsPiece}
use Rattle.captures.proofs.content_reader.ContentReader.advance.Given as goal

abbrev pub invariant-loop-read : goal.invariant-loop-read
invariant-loop-read g l =
    ReadsPiece l.initial.self (g.R.Read.remaining l.initial.reader) (g.R.Read.remaining l.reader) (HasRead l.self)
    × (l.self.order ≡ l.initial.self.order)
