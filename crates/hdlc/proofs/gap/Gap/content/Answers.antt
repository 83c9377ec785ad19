use Rattle.std.proofs.Common.{arith}
use Rattle.hdlc.proofs.Collecting.{good_content}
use Rattle.hdlc.proofs.gap.Gap.content.Goals as goal

pub returns : goal.returns
returns c gap old fine = rw c.as_slice.ensures.value (good_content c.args.self.now gap c.saturating_sub.result old fine (omega arith))
