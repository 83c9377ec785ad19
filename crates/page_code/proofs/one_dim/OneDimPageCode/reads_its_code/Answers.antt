use Rattle.page_code.proofs.OneDimension.ReadsItsCode.{reads_its_code}
use Rattle.page_code.proofs.one_dim.OneDimPageCode.reads_its_code.Goals as goal

pub returns : goal.returns
returns c = reads_its_code
