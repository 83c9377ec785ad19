use Rattle.std.proofs.Common.{arith, sym, ◌∙◌}
use Rattle.page_files.proofs.PageEnds.{zero_more}
use Rattle.page_files.proofs.page_end.without_zeros.Goals as goal

pub loop-place-preserved : goal.loop-place-preserved
loop-place-preserved c = record {
  within = omega (arith, c.loop-place.invariant.within);
  zeros = zero_more c.args.order c.args.octets.now c.args.end c.loop-place.place c.loop-place.invariant.within
      (omega (arith, c.loop-place-test.true)) (sym c.bit_of.ensures ∙ c.if-bit_of.false) c.loop-place.invariant.zeros;
}
