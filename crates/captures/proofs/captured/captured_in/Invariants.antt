-- What holds in the loop of `captured_in`.
use Rattle.std.proofs.Common.{◌≡◌}
use Rattle.captures.proofs.Contents.{Left}
use Rattle.captures.proofs.Following.{OutLeft}
use Rattle.captures.proofs.captured.captured_in.Given as goal

abbrev pub invariant-loop-content : goal.invariant-loop-content
invariant-loop-content g l =
    (l.contents.order ≡ l.fn.order) × Left (g.R.Read.remaining l.initial.reader) (g.R.Read.remaining l.reader) l.contents
    (OutLeft l.fn.order l.out.items l.capture)
