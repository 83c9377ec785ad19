use Rattle.conversations.proofs.FrameLines.{contents_are_heard, reads_frames_sent}
use Rattle.conversations.proofs.SentFrames.{says_its_frames}
use Rattle.conversations.proofs.laws.lines.frames_are_heard.Goals as goal

pub returns-clause-heard : goal.returns-clause-heard
returns-clause-heard c = contents_are_heard

pub returns-clause-reads : goal.returns-clause-reads
returns-clause-reads c = reads_frames_sent

pub returns-clause-sent : goal.returns-clause-sent
returns-clause-sent c = says_its_frames
