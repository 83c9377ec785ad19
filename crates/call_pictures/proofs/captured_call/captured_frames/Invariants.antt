-- What holds in the loop of `captured_frames`.
use Rattle.captures.proofs.Contents.{Left}
use Rattle.call_pictures.proofs.CapturedCalls.{TakesLeft}
use Rattle.call_pictures.proofs.captured_call.captured_frames.Given as goal

abbrev pub invariant-loop-content : goal.invariant-loop-content
invariant-loop-content g l =
    Left (g.R.Read.remaining l.initial.reader) (g.R.Read.remaining l.reader) l.contents
    (TakesLeft l.fn.order l.frames.known.items l.frames.others)
