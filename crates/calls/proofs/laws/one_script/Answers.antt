use Rattle.calls.proofs.OneScript as scripts
use Rattle.calls.proofs.laws.one_script.Goals as goal

pub returns-clause-says : goal.returns-clause-says
returns-clause-says c = scripts.one_script

pub returns-clause-refused : goal.returns-clause-refused
returns-clause-refused c = scripts.refused_for_memory
