use Rattle.calls.proofs.OptionsMean.{lines_are_asked, options_mean}
use Rattle.calls.proofs.laws.options_mean.Goals as goal

pub returns-clause-stations : goal.returns-clause-stations
returns-clause-stations c = options_mean

pub returns-clause-lines : goal.returns-clause-lines
returns-clause-lines c = lines_are_asked
