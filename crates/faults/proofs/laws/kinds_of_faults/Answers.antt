use Rattle.faults.proofs.FaultKinds.{kind_of_code_fault, kind_of_number, kind_of_raster_fault, number_of_kind, words_of_kind}
use Rattle.faults.proofs.laws.kinds_of_faults.Goals as goal

pub returns-clause-number : goal.returns-clause-number
returns-clause-number c = number_of_kind

pub returns-clause-kind : goal.returns-clause-kind
returns-clause-kind c = kind_of_number

pub returns-clause-images : goal.returns-clause-images
returns-clause-images c = kind_of_raster_fault

pub returns-clause-pages : goal.returns-clause-pages
returns-clause-pages c = kind_of_code_fault

pub returns-clause-words : goal.returns-clause-words
returns-clause-words c = words_of_kind
