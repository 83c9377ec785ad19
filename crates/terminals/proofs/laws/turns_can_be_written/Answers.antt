use Rattle.terminals.proofs.Writable.{answerers_can_be_written, callers_can_be_written, kept_maps_are_whole, maps_are_whole}
use Rattle.terminals.proofs.laws.turns_can_be_written.Goals as goal

pub returns-clause-caller : goal.returns-clause-caller
returns-clause-caller c = callers_can_be_written c.page_is_cut_into_full_frames.ensures

pub returns-clause-answerer : goal.returns-clause-answerer
returns-clause-answerer c = answerers_can_be_written

pub returns-clause-maps : goal.returns-clause-maps
returns-clause-maps c = maps_are_whole

pub returns-clause-kept : goal.returns-clause-kept
returns-clause-kept c = kept_maps_are_whole
