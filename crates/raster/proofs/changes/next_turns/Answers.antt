use Rattle.std.proofs.Common.{◌≡◌, arith}
use Rattle.raster.proofs.ChangeLemmas.{next_here, next_on, next_past}
use Rattle.raster.proofs.changes.next_turns.Goals as goal

pub returns-then-turned-ne0 : goal.returns-then-turned-ne0
returns-then-turned-ne0 c = c.loop-at.invariant.goes_on c.loop-at.at c.whole_turns-turned.result (next_here c.args.octets.now c.args.end
    c.loop-at.at c.whole_turns-turned.result c.loop-at.invariant.aligned (omega (arith, c.loop-at-test.true)) c.whole_turns-turned.ensures)

pub loop-at-preserved-then-last-eq0 : goal.loop-at-preserved-then-last-eq0
loop-at-preserved-then-last-eq0 c =
    let none : c.whole_turns-turned.result ≡ 0 = omega (arith, c.if-turned-ne0.false) in
    record {
      aligned = c.after_alike-at.ensures.aligned;
      high = c.after_alike-at.ensures.low;
      goes_on = λ next turned later. c.loop-at.invariant.goes_on next turned (next_on c.args.octets.now c.args.end c.loop-at.at next turned
          c.loop-at.invariant.aligned (rw none at c.whole_turns-turned.ensures) (c.after_alike-at.ensures.goes_on next turned later));
    }

pub loop-at-preserved : goal.loop-at-preserved
loop-at-preserved c =
    let none : c.whole_turns-turned.result ≡ 0 = omega (arith, c.if-turned-ne0.false) in
    record {
      aligned = c.after_alike-at-else-last-eq0.ensures.aligned;
      high = c.after_alike-at-else-last-eq0.ensures.low;
      goes_on = λ next turned later. c.loop-at.invariant.goes_on next turned (next_on c.args.octets.now c.args.end c.loop-at.at next turned
          c.loop-at.invariant.aligned (rw none at c.whole_turns-turned.ensures) (c.after_alike-at-else-last-eq0.ensures.goes_on next turned later));
    }

pub returns-then-at-end : goal.returns-then-at-end
returns-then-at-end c = c.loop-at.invariant.goes_on c.loop-at.at c.word_turns.result (next_here c.args.octets.now c.args.end
    c.loop-at.at c.word_turns.result c.loop-at.invariant.aligned (omega (arith, c.if-at-end.true)) c.word_turns.ensures)

pub returns : goal.returns
returns c = c.loop-at.invariant.goes_on c.loop-at.at 0 (next_past c.args.octets.now c.args.end c.loop-at.at c.loop-at.invariant.aligned
    (omega (arith, c.if-at-end.false)) (omega (arith, c.loop-at.invariant.high)))
