use Rattle.std.proofs.Common.{arith}
use Rattle.raster.proofs.ChangeLemmas.{alike_after, alike_on}
use Rattle.raster.proofs.changes.after_alike.Goals as goal

pub loop-at-preserved : goal.loop-at-preserved
loop-at-preserved c =
    let at = c.loop-at.at in
    let all = c.eight_are.ensures c.if-eight_are.true in
    let before = c.loop-at.invariant.before in
    record {
      aligned = omega (arith, c.loop-at.invariant.aligned);
      high = omega (arith, c.loop-at-test.true, c.loop-at.invariant.aligned);
      further = omega (arith, c.loop-at.invariant.further);
      before = alike_after c.args.octets.now at c.args.bit all before;
      goes_on = λ next turned later. c.loop-at.invariant.goes_on next turned (alike_on c.args.octets.now c.args.end at next turned c.args.bit
          c.loop-at.invariant.aligned all before later);
    }
