use Rattle.conversations.proofs.FrameLines.{frames_by_octets}
use Rattle.conversations.proofs.laws.lines.frames_by_octets.Goals as goal

pub returns : goal.returns
returns c = frames_by_octets
