use Rattle.page_code.proofs.TwoDimensions.ReadsItsCode.{reads_its_code}
use Rattle.page_code.proofs.t6.T6PageCode.reads_its_code.Goals as goal

pub returns : goal.returns
returns c = reads_its_code
