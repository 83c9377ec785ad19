-- What the check asks of `write_contents`.
use Rattle.std.proofs.Common.{rules}
use Rattle.conversations.proofs.FramesWritten.{contents_written, next_content}
use Rattle.conversations.proofs.Written.{failed, none_written, part_next, piece_written}
use Rattle.conversations.proofs.writing.write_contents.Goals as goal

pub loop-content-init : goal.loop-content-init
loop-content-init g c = none_written _ _

pub loop-content-preserved : goal.loop-content-preserved
loop-content-preserved g c =
    piece_written _ _ _ _ _ _ _ c.loop-content.invariant
    (next_content c.loop-content.ear c.next.follows.lender-at-none c.in-Some.content.now c.in-Some.ensures.some
    c.next.follows.holds-at-none) c.in_ok-write_content.ensures

pub returns-in_err-write_content : goal.returns-in_err-write_content
returns-in_err-write_content g c =
    failed _ _ _ _ c.from_residual.ensures.0
    (part_next _ _ _ _ _ _ _ c.loop-content.invariant
    (next_content c.loop-content.ear c.next.follows.lender-at-none c.in-Some.content.now c.in-Some.ensures.some
    c.next.follows.holds-at-none) c.in_err-write_content.ensures)

pub returns : goal.returns
returns g c = contents_written _ c.loop-content.ear _ _ c.loop-content.invariant (search rules)
