use Rattle.std.proofs.Common.{sym, ◌∙◌, arith}
use Rattle.run_tables.specs.Reading.{rest_of}
use Rattle.page_code.proofs.TwoDimensions.ZeroBits.{some_one, zeros_last, zeros_passed}
use Rattle.page_code.proofs.t6.read.only_zeros.Goals as goal

pub returns-then-next-ne0 : goal.returns-then-next-ne0
returns-then-next-ne0 c = sym (sym c.loop-ahead.invariant ∙ some_one (rest_of c.loop-ahead.ahead) c.peek_57-next.result
    (omega arith) c.peek_57-next.ensures c.if-next-ne0.true)

pub loop-ahead-preserved : goal.loop-ahead-preserved
loop-ahead-preserved c = zeros_passed c.loop-ahead.ahead c.skip.new.self c.peek_57-next.result c.peek_57-next.ensures
    (omega (arith, c.if-next-ne0.false)) c.skip.ensures ∙ c.loop-ahead.invariant

pub returns-then-last-ne0 : goal.returns-then-last-ne0
returns-then-last-ne0 c = sym (sym c.loop-ahead.invariant ∙ some_one (rest_of c.loop-ahead.ahead) c.peek_57-last.result
    (omega arith) c.peek_57-last.ensures c.if-last-ne0.true)

pub returns : goal.returns
returns c = sym (sym c.loop-ahead.invariant ∙ zeros_last (rest_of c.loop-ahead.ahead) c.peek_57-last.result
    c.peek_57-last.ensures (omega (arith, c.if-last-ne0.false)) c.loop-ahead-test.ensures.no)
