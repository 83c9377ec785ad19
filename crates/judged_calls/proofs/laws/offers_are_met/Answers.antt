use Rattle.judged_calls.proofs.Offers.{asks_for_offers}
use Rattle.judged_calls.proofs.laws.offers_are_met.Goals as goal

pub returns : goal.returns
returns c = asks_for_offers c.signals_hold.ensures c.lowered_is_allowed.ensures c.answerers_keep.ensures.keep
