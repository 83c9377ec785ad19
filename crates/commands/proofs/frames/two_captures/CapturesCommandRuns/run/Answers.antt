-- What the check asks of `run`.
use Rattle.std.proofs.Common.{◌≡◌, ◌∙◌, arith, eqb-true, length, sym, vec_len}
use Rattle.std.proofs.lemmas.List.{nil_from_length}
use Rattle.commands.proofs.frames.two_captures.CapturesCommandRuns.run.Goals as goal

pub returns-then-is_empty-2 : goal.returns-then-is_empty-2
returns-then-is_empty-2 c =
    let callers = c.in_ok-caller.caller.known in
    let answerers = c.in_ok-answerer.answerer.known in
    let no_caller : vec_len callers ≡ 0 = eqb-true (vec_len callers) 0 (sym c.is_empty.ensures ∙ c.if-is_empty.true) in
    let no_answerer : vec_len answerers ≡ 0 =
    eqb-true (vec_len answerers) 0 (sym c.is_empty-then-is_empty.ensures ∙ c.if-is_empty-2.true) in
    let no_callers : length callers.items ≡ 0 = omega (arith, callers.ok.0, no_caller) in
    let no_answerers : length answerers.items ≡ 0 = omega (arith, answerers.ok.0, no_answerer) in (
      c.in_ok-caller.caller,
      c.in_ok-answerer.answerer,
      c.in_ok-caller.ensures.read,
      c.in_ok-answerer.ensures.read,
      (nil_from_length callers.items no_callers, nil_from_length answerers.items no_answerers),
    )

pub returns : goal.returns
returns c =
    let drawn = rw (c.deref.ensures.value, c.deref-2.ensures.value) at c.in_ok-ladder.ensures.drawn in (
      c.in_ok-caller.caller,
      c.in_ok-answerer.answerer,
      c.in_ok-caller.ensures.read,
      c.in_ok-answerer.ensures.read,
      (c.in_ok-ladder.ladder.entries, drawn),
    )
