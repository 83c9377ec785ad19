use Rattle.std.proofs.Common.{arith, ◌≡◌, ◌+◌, ◌-◌}
use Rattle.std.specs.Prelude.{slice_index_or}
use Rattle.page_code.specs.declared.t6.mode.Shift.TheVariants.{V0}
use Rattle.page_code.proofs.TwoDimensions.FrontSteps.{b1_most, room, vertical_fits, vertical_front}
use Rattle.page_code.proofs.t6.front.under_b1.Goals as goal

pub index_mut-requires : goal.index_mut-requires
index_mut-requires c = omega (
  arith,
  room c.args.held.now c.args.list.now.items c.args.width c.args.front c.requires.fits c.requires.short c.b1_at-at.result
      c.b1_at-at.ensures.found c.b1_at-at.ensures.even,
)

pub overflow_add-result : goal.overflow_add-result
overflow_add-result c = omega (
  arith,
  c.requires.fits.wide,
  b1_most c.args.held.now c.args.list.now.items c.args.width c.args.front c.requires.fits c.requires.short c.b1_at-at.result
      c.b1_at-at.ensures.found c.b1_at-at.ensures.even,
)

pub returns-clause-fits : goal.returns-clause-fits
returns-clause-fits c =
    let found = c.b1_at-at.ensures.found in
    vertical_fits c.args.held.now c.args.list.now.items c.args.width c.args.front c.requires.fits c.requires.short c.b1_at-at.result found
    c.b1_at-at.ensures.even (slice_index_or c.args.held.now c.b1_at-at.result 0) (c.b1_at-at.result + 1) found.reached
    (b1_most c.args.held.now c.args.list.now.items c.args.width c.args.front c.requires.fits c.requires.short c.b1_at-at.result found
    c.b1_at-at.ensures.even) found.within (λ some. let back : c.b1_at-at.result + 1 - 2 ≡ c.b1_at-at.result - 1 = omega arith in
    rw back (omega (
      arith,
      c.requires.fits.ended.rising (c.b1_at-at.result - 1) c.b1_at-at.result (omega arith) (omega (arith, found.within)),
    ))) (omega arith)

pub returns-clause-leads : goal.returns-clause-leads
returns-clause-leads c =
    let found = c.b1_at-at.ensures.found in
    vertical_front c.args.held.now c.args.list.now.items c.args.width c.args.front c.requires.fits c.requires.short c.b1_at-at.result found
    c.b1_at-at.ensures.even V0 (slice_index_or c.args.held.now c.b1_at-at.result 0) (omega arith) found.reached
    (b1_most c.args.held.now c.args.list.now.items c.args.width c.args.front c.requires.fits c.requires.short c.b1_at-at.result found
    c.b1_at-at.ensures.even)
