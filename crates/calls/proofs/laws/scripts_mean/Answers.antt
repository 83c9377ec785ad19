use Rattle.calls.proofs.ScriptsMean.{counts_make, counts_mean, lines_mean, words_do}
use Rattle.calls.proofs.laws.scripts_mean.Goals as goal

pub returns-clause-words : goal.returns-clause-words
returns-clause-words c = words_do

pub returns-clause-numbers : goal.returns-clause-numbers
returns-clause-numbers c = counts_mean

pub returns-clause-times : goal.returns-clause-times
returns-clause-times c = counts_make

pub returns-clause-lines : goal.returns-clause-lines
returns-clause-lines c = lines_mean
