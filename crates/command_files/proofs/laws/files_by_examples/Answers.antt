use Rattle.command_files.proofs.FileRows.{files_are_one, sizes_by_number}
use Rattle.command_files.proofs.laws.files_by_examples.Goals as goal

pub returns-clause-one : goal.returns-clause-one
returns-clause-one c = files_are_one

pub returns-clause-sizes : goal.returns-clause-sizes
returns-clause-sizes c = sizes_by_number
