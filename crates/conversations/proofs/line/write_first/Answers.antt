-- What the check asks of `write_first`.
use Rattle.std.proofs.Common.{◌≡◌, ◌∙◌, ◌∷◌, rules, sym}
use Rattle.std.proofs.lemmas.Result.{err_from_is_err_and}
use Rattle.conversations.proofs.FrameWords.{no_content_comes}
use Rattle.conversations.proofs.line.write_first.Goals as goal

pub returns-in_err-content : goal.returns-in_err-content
returns-in_err-content c =
    let p = err_from_is_err_and c.from_residual.result c.from_residual.ensures.1 in
    let space : c.args.text.now ≡ 32 ∷ c.in-Some.rest.now = search rules in
    rw p.1 (λ no.
    no_content_comes c.args.text.now c.in-Some.rest.now c.cut_word.result.0.now c.cut_word.result.1.now space c.cut_word.ensures.cut
    c.cut_word.ensures.solid c.cut_word.ensures.ends (c.in_err-content.ensures (sym p.2 ∙ no)))
