use Rattle.page_code.proofs.OneDimension.LinesMean.{first_line_means, line_ends_mean, row_lines_end_mean, skipping_means}
use Rattle.page_code.proofs.laws.one_dim.lines_mean.Goals as goal

pub returns-clause-ends : goal.returns-clause-ends
returns-clause-ends c = line_ends_mean

pub returns-clause-rows : goal.returns-clause-rows
returns-clause-rows c = row_lines_end_mean

pub returns-clause-skips : goal.returns-clause-skips
returns-clause-skips c = skipping_means

pub returns-clause-first : goal.returns-clause-first
returns-clause-first c = first_line_means
