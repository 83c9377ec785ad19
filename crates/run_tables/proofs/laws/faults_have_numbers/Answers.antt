use Rattle.run_tables.proofs.FaultNumbers.{faults_have_numbers}
use Rattle.run_tables.proofs.laws.faults_have_numbers.Goals as goal

pub returns : goal.returns
returns c = faults_have_numbers
