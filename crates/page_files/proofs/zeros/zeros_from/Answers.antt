-- What the check asks of `zeros_from`.
use Rattle.std.proofs.Common.{arith}
use Rattle.page_code.proofs.OneDimension.SeesEol.{none_left, word_ends, word_on}
use Rattle.page_files.proofs.zeros.zeros_from.Goals as goal

pub returns-then-zeros-lt64-clause-zeros : goal.returns-then-zeros-lt64-clause-zeros
returns-then-zeros-lt64-clause-zeros c = (word_ends c.args.order c.args.octets.now c.args.place c.loop-at.at c.word_at.result
    c.zeros_of-zeros.result c.loop-at.invariant.past c.word_at.ensures c.zeros_of-zeros.ensures c.if-zeros-lt64.true
    c.loop-at.invariant.zeros).1

pub returns-then-zeros-lt64-clause-within : goal.returns-then-zeros-lt64-clause-within
returns-then-zeros-lt64-clause-within c =
    let ends = word_ends c.args.order c.args.octets.now c.args.place c.loop-at.at c.word_at.result c.zeros_of-zeros.result
    c.loop-at.invariant.past c.word_at.ensures c.zeros_of-zeros.ensures c.if-zeros-lt64.true c.loop-at.invariant.zeros in
    omega (arith, ends.0, c.loop-at.invariant.past)

pub loop-at-preserved : goal.loop-at-preserved
loop-at-preserved c = record {
  past = omega (arith, c.loop-at.invariant.past);
  zeros = word_on c.args.order c.args.octets.now c.args.place c.loop-at.at c.word_at.result c.zeros_of-zeros.result
      c.loop-at.invariant.past c.word_at.ensures c.zeros_of-zeros.ensures (omega arith) c.loop-at.invariant.zeros;
}

pub returns-clause-zeros : goal.returns-clause-zeros
returns-clause-zeros c = none_left c.args.order c.args.octets.now c.args.place c.loop-at.at (omega arith) c.loop-at.invariant.zeros
