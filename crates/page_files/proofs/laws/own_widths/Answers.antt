use Rattle.page_files.proofs.OwnWidths.{pages_say_widths}
use Rattle.page_files.proofs.laws.own_widths.Goals as goal

pub returns : goal.returns
returns c = pages_say_widths
