use Rattle.partial_page.proofs.NumberLemmas.{faults-have-numbers}
use Rattle.partial_page.proofs.laws.faults_have_numbers.Goals as goal

pub returns : goal.returns
returns c = faults-have-numbers
