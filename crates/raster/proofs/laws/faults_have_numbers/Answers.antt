use Rattle.raster.proofs.NumberLemmas.{faults_have_numbers}
use Rattle.raster.proofs.laws.faults_have_numbers.Goals as goal

pub returns : goal.returns
returns c = faults_have_numbers
