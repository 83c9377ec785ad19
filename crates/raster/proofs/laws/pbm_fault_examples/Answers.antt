use Rattle.raster.proofs.PbmFaultExamples.{are_fault_examples}
use Rattle.raster.proofs.laws.pbm_fault_examples.Goals as goal

pub returns : goal.returns
returns c = are_fault_examples
