use Rattle.joined_terminals.proofs.OnePage.{one_page_is_stored}
use Rattle.joined_terminals.proofs.laws.one_page_is_stored.Goals as goal

pub returns : goal.returns
returns c =
    one_page_is_stored c.held_are_stored.ensures.stored
    (record {
      held = c.held_is_not_confirmed.ensures;
      serves = c.limited_serves.ensures;
      keeps = c.answerers_keep.ensures.keep;
      always = c.always_answered.ensures.always;
    })
