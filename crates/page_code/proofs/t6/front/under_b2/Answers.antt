use Rattle.std.proofs.Common.{arith}
use Rattle.page_code.proofs.TwoDimensions.FrontSteps.{b2_most, pass_fits, pass_front}
use Rattle.page_code.proofs.t6.front.under_b2.Goals as goal

pub overflow_add-result : goal.overflow_add-result
overflow_add-result c = omega (
  arith,
  c.requires.fits.wide,
  b2_most c.args.held.now c.args.list.now.items c.args.width c.args.front c.requires.fits c.requires.short c.b1_at-at.result
      c.b1_at-at.ensures.found c.b1_at-at.ensures.even,
)

pub returns-clause-fits : goal.returns-clause-fits
returns-clause-fits c = pass_fits c.args.held.now c.args.list.now.items c.args.width c.args.front c.requires.fits c.requires.short
    c.b1_at-at.result c.b1_at-at.ensures.found c.b1_at-at.ensures.even

pub returns-clause-leads : goal.returns-clause-leads
returns-clause-leads c = pass_front c.args.held.now c.args.list.now.items c.args.width c.args.front c.requires.fits c.requires.short
    c.b1_at-at.result c.b1_at-at.ensures.found c.b1_at-at.ensures.even
