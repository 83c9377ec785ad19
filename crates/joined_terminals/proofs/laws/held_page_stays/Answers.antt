use Rattle.joined_terminals.proofs.HeldPages.{held_page_stays}
use Rattle.joined_terminals.proofs.laws.held_page_stays.Goals as goal

pub returns : goal.returns
returns c =
    held_page_stays c.terminals_are_safe.ensures.takes c.stored_is_read.ensures.steps
    (record {
      held = c.held_is_not_confirmed.ensures;
      serves = c.limited_serves.ensures;
      keeps = c.answerers_keep.ensures.keep;
      always = c.always_answered.ensures.always;
    })
