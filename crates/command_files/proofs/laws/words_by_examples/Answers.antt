use Rattle.command_files.proofs.FileRows.{numbers_are_found, words_are_of_files}
use Rattle.command_files.proofs.laws.words_by_examples.Goals as goal

pub returns-clause-numbers : goal.returns-clause-numbers
returns-clause-numbers c = numbers_are_found

pub returns-clause-words : goal.returns-clause-words
returns-clause-words c = words_are_of_files
