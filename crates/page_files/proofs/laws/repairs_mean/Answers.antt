use Rattle.page_files.proofs.RepairsMean.{rows_are_listed, torn_is_one_bit_off}
use Rattle.page_files.proofs.laws.repairs_mean.Goals as goal

pub returns-clause-rows : goal.returns-clause-rows
returns-clause-rows c = rows_are_listed

pub returns-clause-torn : goal.returns-clause-torn
returns-clause-torn c = torn_is_one_bit_off
