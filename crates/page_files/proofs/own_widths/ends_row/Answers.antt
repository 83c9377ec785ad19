-- What the check asks of `ends_row`.
use Rattle.std.proofs.Common.{sym}
use Rattle.page_files.proofs.OwnWidths.{none_ends, some_ends}
use Rattle.page_files.proofs.own_widths.ends_row.Goals as goal

pub returns-in-Some : goal.returns-in-Some
returns-in-Some c = some_ends _ c.in-Some.zeros (sym c.in-Some.ensures.zeros)

pub returns-in-None : goal.returns-in-None
returns-in-None c = none_ends _ (sym c.in-None.ensures.zeros)
