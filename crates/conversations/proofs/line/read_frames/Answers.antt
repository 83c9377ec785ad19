-- What the check asks of `read_frames`.
use Rattle.conversations.proofs.FrameWords.{are_coded}
use Rattle.conversations.proofs.line.read_frames.Goals as goal

pub returns : goal.returns
returns c =
    let frames = c.in_ok-write_frames.ensures in
    are_coded c.args.text.now frames.0 frames.1 c.new-writer.result c.write_frames.new.writer c.into_octets-octets.result.items
    c.bits-count.result frames.2 frames.3 c.new-writer.ensures c.bits-count.ensures c.into_octets-octets.ensures
    (rw c.deref.ensures.value at c.are_octets.ensures)
