use Rattle.std.proofs.Common.{refl}
use Rattle.run_tables.specs.Numbers.{number_text}
use Rattle.page_code.specs.TwoDimensions.ModeTable.{mode_entries}
use Rattle.page_code.proofs.t6.mode_table.entries.Goals as goal

pub returns : goal.returns
unfolding mode_entries number_text
returns c = refl
