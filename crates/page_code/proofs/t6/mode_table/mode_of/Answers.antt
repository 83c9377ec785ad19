use Rattle.page_code.proofs.TwoDimensions.ModeTable.{held_modes, mode_entry, entry_code, entry_length}
use Rattle.page_code.proofs.t6.mode_table.mode_of.Goals as goal

pub bounds-entries-next : goal.bounds-entries-next
bounds-entries-next c = rw (held_modes _ c.entries-entries.ensures) c.requires

pub returns-clause-code : goal.returns-clause-code
returns-clause-code c = rw (mode_entry _ c.args.next _ c.entries-entries.ensures c.requires) (entry_code _)

pub returns-clause-length : goal.returns-clause-length
returns-clause-length c = rw (mode_entry _ c.args.next _ c.entries-entries.ensures c.requires) (entry_length _)
