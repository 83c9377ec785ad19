-- What the check asks of `write_frames`.
use Rattle.std.proofs.Common.{◌≡◌, ◌∙◌, [], rules, sym}
use Rattle.std.proofs.lemmas.Result.{err_from_is_err_and}
use Rattle.conversations.proofs.FrameWords.{all_read, empty_is, none_left, one_read}
use Rattle.conversations.proofs.line.write_frames.Goals as goal

pub loop-rest-preserved : goal.loop-rest-preserved
loop-rest-preserved c =
    let first = c.in_ok-rest.ensures in
    one_read c.args.text.now c.loop-rest.rest.now first.0 c.in_ok-rest.rest.now first.1 c.args.writer.now c.loop-rest.writer
    c.write_first.new.writer c.loop-rest.invariant first.2 first.3

pub returns-in_err-rest : goal.returns-in_err-rest
returns-in_err-rest c =
    let p = err_from_is_err_and c.from_residual.result c.from_residual.ensures.1 in
    let some : c.loop-rest.rest.now ≡ [] → ⊥ = search rules in
    rw p.1 (λ no. none_left c.args.text.now c.loop-rest.rest.now c.args.writer.now c.loop-rest.writer some
    (c.in_err-rest.ensures (sym p.2 ∙ no)) c.loop-rest.invariant)

pub returns : goal.returns
returns c =
    let none : c.loop-rest.rest.now ≡ [] = empty_is c.loop-rest.rest.now (search rules) in
    all_read c.args.text.now c.loop-rest.rest.now c.args.writer.now c.loop-rest.writer none c.loop-rest.invariant
