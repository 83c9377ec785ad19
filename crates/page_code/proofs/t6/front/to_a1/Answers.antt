use Rattle.std.proofs.Common.{arith}
use Rattle.std.proofs.lemmas.Result.{err_from_is_err_and}
use Rattle.page_code.proofs.TwoDimensions.FrontSteps.{b1_most, room, vertical_fits, vertical_front, vertical_refused}
use Rattle.page_code.proofs.t6.front.to_a1.Goals as goal

pub returns-in_err-a1-clause-refuses : goal.returns-in_err-a1-clause-refuses
returns-in_err-a1-clause-refuses c =
    let p = err_from_is_err_and c.from_residual.result c.from_residual.ensures.1 in
    rw (p.1, p.2) (vertical_refused c.args.held.now c.args.list.now.items c.args.width c.args.front c.requires.fits c.requires.short
    c.b1_at-at.result c.b1_at-at.ensures.found c.b1_at-at.ensures.even c.args.shift c.in_err-a1.field-0.0 c.in_err-a1.ensures.kind)

pub index_mut-requires : goal.index_mut-requires
index_mut-requires c = omega (
  arith,
  room c.args.held.now c.args.list.now.items c.args.width c.args.front c.requires.fits c.requires.short c.b1_at-at.result
      c.b1_at-at.ensures.found c.b1_at-at.ensures.even,
)

pub returns-clause-fits : goal.returns-clause-fits
returns-clause-fits c = vertical_fits c.args.held.now c.args.list.now.items c.args.width c.args.front c.requires.fits c.requires.short
    c.b1_at-at.result c.b1_at-at.ensures.found c.b1_at-at.ensures.even c.in_ok-a1.a1 c.index_after.result c.in_ok-a1.ensures.a1.1
    c.in_ok-a1.ensures.a1.2 c.index_after.ensures.index c.index_after.ensures.sought c.index_after.ensures.odd

pub returns-clause-leads : goal.returns-clause-leads
returns-clause-leads c = vertical_front c.args.held.now c.args.list.now.items c.args.width c.args.front c.requires.fits c.requires.short
    c.b1_at-at.result c.b1_at-at.ensures.found c.b1_at-at.ensures.even c.args.shift c.in_ok-a1.a1 c.in_ok-a1.ensures.a1.0
    c.in_ok-a1.ensures.a1.1 c.in_ok-a1.ensures.a1.2

pub a1_of-requires-clause-b1 : goal.a1_of-requires-clause-b1
a1_of-requires-clause-b1 c = omega (
  arith,
  b1_most c.args.held.now c.args.list.now.items c.args.width c.args.front c.requires.fits c.requires.short c.b1_at-at.result
      c.b1_at-at.ensures.found c.b1_at-at.ensures.even,
  c.requires.width,
)
