-- What the check asks of `write_frames`.
use Rattle.std.proofs.Common.{◌++◌, ◌∷◌, [], codes, subst}
use Rattle.std.specs.Io.KnownBytes.{Appends}
use Rattle.terminals.specs.Hearing.{contents}
use Rattle.conversations.proofs.FramesWritten.{fed_queue}
use Rattle.conversations.proofs.Written.{failed, no_part, part_after, part_of_longer, text_after}
use Rattle.conversations.proofs.writing.write_frames.Goals as goal
use Rattle.conversations.specs.FrameLines.{contents_text}
use Rattle.conversations.specs.Writing.{AppendsPart}

pub returns-in_err-feed : goal.returns-in_err-feed
returns-in_err-feed g c = failed _ _ _ _ c.from_residual.ensures.0 (no_part _ _)

pub returns-in_err-write_octets : goal.returns-in_err-write_octets
returns-in_err-write_octets g c =
    failed _ _ _ _ c.from_residual-in_err-write_octets.ensures.0
    (part_of_longer (codes "tx v21 frames") (contents_text (contents c.args.burst.now.octets.items) ++ 10 ∷ []) _ _
    c.in_err-write_octets.ensures)

pub returns-in_err-write_contents : goal.returns-in_err-write_contents
returns-in_err-write_contents g c =
    let is =
    fed_queue c.new-ear.result c.feed.new.self c.args.burst.now.octets.items c.new-ear.ensures
    (rw c.deref.ensures.value at c.in_ok-feed.ensures.ok) in
    failed _ _ _ _ c.from_residual-in_err-write_contents.ensures.0
    (part_after (codes "tx v21 frames") _ _ _ _ c.in_ok-write_octets.ensures
    (part_of_longer _ (10 ∷ []) _ _ (subst (AppendsPart _ _) is c.in_err-write_contents.ensures)))

pub returns : goal.returns
returns g c =
    let is =
    fed_queue c.new-ear.result c.feed.new.self c.args.burst.now.octets.items c.new-ear.ensures
    (rw c.deref.ensures.value at c.in_ok-feed.ensures.ok) in
    text_after (codes "tx v21 frames") _ _ _ _ _ c.in_ok-write_octets.ensures
    (text_after _ (10 ∷ []) _ _ _ _ (subst (Appends _ _) is c.in_ok-write_contents.ensures) c.write_octets-2.ensures)
