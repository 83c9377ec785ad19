use Rattle.raster.proofs.PbmFaults.{names_first_fault}
use Rattle.raster.proofs.laws.pbm_first_fault.Goals as goal

pub returns : goal.returns
returns c = names_first_fault
