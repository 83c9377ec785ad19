-- What the check asks of `read_told`.
use Rattle.conversations.proofs.Words.{no_told_time, no_told_word}
use Rattle.conversations.proofs.line.read_told.Goals as goal

pub returns-in_default : goal.returns-in_default
returns-in_default c = λ _. no_told_word _ _ c.in_default.ensures

pub returns-in_default-number_in : goal.returns-in_default-number_in
returns-in_default-number_in c =
    λ _. no_told_time _ _ _ _ c.in-Some.ensures.0 c.in-Some.ensures.1 c.in_default-number_in.ensures
