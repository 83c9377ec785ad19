-- What the check asks of `read_burst`.
use Rattle.std.proofs.lemmas.Result.{err_from_is_err_and}
use Rattle.conversations.proofs.Words.{no_burst, no_channel, no_kind_word, no_kind, no_content}
use Rattle.conversations.proofs.line.read_burst.Goals as goal

pub returns-in_default : goal.returns-in_default
returns-in_default c = λ _. no_burst _ c.in_default.ensures

pub returns-in_default-named : goal.returns-in_default-named
returns-in_default-named c = λ _. no_channel _ _ _ c.in-Some.ensures.0 c.in-Some.ensures.1 c.in_default-named.ensures

pub returns-in_default-split_word : goal.returns-in_default-split_word
returns-in_default-split_word c = λ _. no_kind_word _ _ _ c.in-Some.ensures.0 c.in-Some.ensures.1 c.in_default-split_word.ensures

pub returns-in_default-named-2 : goal.returns-in_default-named-2
returns-in_default-named-2 c = λ _.
    no_kind _ _ _ c.in-Some.ensures.0 c.in-Some.ensures.1 _ _ c.in-Some-split_word.ensures.0 c.in-Some-split_word.ensures.1
    c.in_default-named-2.ensures

pub returns-in_err-content : goal.returns-in_err-content
returns-in_err-content c =
    let p = err_from_is_err_and c.from_residual.result c.from_residual.ensures.1 in
    rw (p.1, p.2)
    (λ no. no_content _ _ _ c.in-Some.ensures.0 c.in-Some.ensures.1 _ _ c.in-Some-split_word.ensures.0 c.in-Some-split_word.ensures.1
    (c.in_err-content.ensures no))
