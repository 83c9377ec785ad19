-- What the check asks of `read_received`.
use Rattle.std.proofs.lemmas.Result.{err_from_is_err_and}
use Rattle.conversations.proofs.Words.{no_time_word, no_time, no_received}
use Rattle.conversations.proofs.line.read_received.Goals as goal

pub returns-in_default : goal.returns-in_default
returns-in_default c = λ _. no_time_word _ c.in_default.ensures

pub returns-in_default-number_in : goal.returns-in_default-number_in
returns-in_default-number_in c = λ _. no_time _ _ _ c.in-Some.ensures.0 c.in-Some.ensures.1 c.in_default-number_in.ensures

pub returns-in_err-channel : goal.returns-in_err-channel
returns-in_err-channel c =
    let p = err_from_is_err_and c.from_residual.result c.from_residual.ensures.1 in
    rw (p.1, p.2) (λ no. no_received _ _ _ c.in-Some.ensures.0 c.in-Some.ensures.1 (c.in_err-channel.ensures no))
