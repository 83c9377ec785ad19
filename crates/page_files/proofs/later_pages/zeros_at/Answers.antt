use Rattle.std.proofs.Common.{arith, sym, ◌∙◌}
use Rattle.page_code.proofs.OneDimension.SeesEol.{none_left, one_ends, zero_on}
use Rattle.page_files.proofs.later_pages.zeros_at.Goals as goal

pub returns-then-bit_of-clause-zeros : goal.returns-then-bit_of-clause-zeros
returns-then-bit_of-clause-zeros c = one_ends c.args.order c.args.octets.now c.args.place c.loop-at.at (omega (arith, c.loop-at-test.true))
    (sym c.bit_of.ensures ∙ c.if-bit_of.true) c.loop-at.invariant.zeros

pub loop-at-preserved : goal.loop-at-preserved
loop-at-preserved c = record {
  past = omega (arith, c.loop-at.invariant.past);
  zeros = zero_on c.args.order c.args.octets.now c.args.place c.loop-at.at c.loop-at.invariant.past (omega (arith, c.loop-at-test.true))
      (sym c.bit_of.ensures ∙ c.if-bit_of.false) c.loop-at.invariant.zeros;
}

pub returns-clause-zeros : goal.returns-clause-zeros
returns-clause-zeros c = none_left c.args.order c.args.octets.now c.args.place c.loop-at.at (omega arith) c.loop-at.invariant.zeros
