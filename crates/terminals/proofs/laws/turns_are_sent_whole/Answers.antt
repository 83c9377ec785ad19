use Rattle.terminals.proofs.Writable.{answerers_send_whole, callers_send_whole}
use Rattle.terminals.proofs.laws.turns_are_sent_whole.Goals as goal

pub returns-clause-caller : goal.returns-clause-caller
returns-clause-caller c = callers_send_whole c.page_is_cut_into_full_frames.ensures c.bursts_cut.ensures.items

pub returns-clause-answerer : goal.returns-clause-answerer
returns-clause-answerer c = answerers_send_whole c.bursts_cut.ensures.items
