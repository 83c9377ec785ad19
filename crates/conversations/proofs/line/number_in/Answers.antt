-- What the check asks of `number_in`.
use Rattle.conversations.proofs.Words.{digits_utf8, not_parsed}
use Rattle.conversations.proofs.line.number_in.Goals as goal

pub returns-in_default : goal.returns-in_default
returns-in_default c = λ number h. c.in_default.ensures.cases.0 (digits_utf8 _ _ number h)

pub returns-in-Err : goal.returns-in-Err
returns-in-Err c = not_parsed _ _ _ c.requires c.in-Ok.ensures.cases.0 c.in-Err.ensures.value.0
