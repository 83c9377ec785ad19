-- What the check asks of `after_eol`.
use Rattle.std.proofs.Common.{◌*◌, arith, length, sym}
use Rattle.raster.specs.Packed.{bits_of}
use Rattle.page_code.proofs.OneDimension.LineEnds.{skip_found, skip_next, skip_none, skip_start}
use Rattle.page_code.proofs.OneDimension.SeesEol.{bits_left}
use Rattle.page_code.proofs.one_dim.repair.after_eol.Goals as goal

pub loop-zeros-init : goal.loop-zeros-init
loop-zeros-init c = record {
  within = c.requires;
  past = omega arith;
  skips = skip_start (bits_of c.args.order c.args.octets.now) c.args.place;
}

pub returns-in-None-clause-skipped : goal.returns-in-None-clause-skipped
returns-in-None-clause-skipped c = skip_none (bits_of c.args.order c.args.octets.now) c.args.place c.loop-zeros.at
    c.loop-zeros.invariant.past c.loop-zeros.invariant.skips (8 * length c.args.octets.now) (sym c.in-None.ensures.zeros)
    c.loop-zeros.invariant.within (bits_left c.args.order c.args.octets.now c.loop-zeros.at)

pub returns-then-zeros-ge11-clause-skipped : goal.returns-then-zeros-ge11-clause-skipped
returns-then-zeros-ge11-clause-skipped c = skip_found (bits_of c.args.order c.args.octets.now) c.args.place c.loop-zeros.at
    c.loop-zeros.invariant.past c.loop-zeros.invariant.skips c.in-Some.zeros (sym c.in-Some.ensures.zeros) c.if-zeros-ge11.true

pub loop-zeros-preserved : goal.loop-zeros-preserved
loop-zeros-preserved c = record {
  within = omega (arith, c.in-Some.ensures.within);
  past = omega (arith, c.loop-zeros.invariant.past);
  skips = skip_next (bits_of c.args.order c.args.octets.now) c.args.place c.loop-zeros.at c.loop-zeros.invariant.past
      c.loop-zeros.invariant.skips c.in-Some.zeros (sym c.in-Some.ensures.zeros) c.if-zeros-ge11.false;
}
