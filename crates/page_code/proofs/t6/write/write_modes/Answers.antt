use Rattle.std.proofs.Common.{◌∙◌, arith, sym, subst, replicate, true, List, Bool}
use Rattle.run_tables.specs.Written.{Appends}
use Rattle.page_code.proofs.TwoDimensions.CodesOn.{horizontal_written, color_after, ones_are, pass_codes, straight_places, vertical_codes}
use Rattle.page_code.proofs.t6.write.write_modes.Goals as goal

pub bounds-row-turns : goal.bounds-row-turns
bounds-row-turns c = omega (
  arith,
  (c.requires.fits.here c.requires.short).within,
  c.same_places-same.ensures.within,
)

pub overflow_add-result : goal.overflow_add-result
overflow_add-result c =
    let run = straight_places c.args.reference.now c.args.row.now c.args.width c.same_places-same.result c.args.front c.requires.fits
    c.requires.short c.b1_at-at.result c.b1_at-at.ensures.found c.b1_at-at.ensures.even c.if-same-gt0.true c.same_places-same.ensures.same
    c.same_places-same.ensures.inside in
    omega (arith, run.2, c.requires.fits.wide)

pub returns-then-same-gt0-clause-fits : goal.returns-then-same-gt0-clause-fits
returns-then-same-gt0-clause-fits c =
    (straight_places c.args.reference.now c.args.row.now c.args.width c.same_places-same.result c.args.front c.requires.fits
    c.requires.short c.b1_at-at.result c.b1_at-at.ensures.found c.b1_at-at.ensures.even c.if-same-gt0.true c.same_places-same.ensures.same
    c.same_places-same.ensures.inside).0

pub returns-then-same-gt0-clause-further : goal.returns-then-same-gt0-clause-further
returns-then-same-gt0-clause-further c =
    let run = straight_places c.args.reference.now c.args.row.now c.args.width c.same_places-same.result c.args.front c.requires.fits
    c.requires.short c.b1_at-at.result c.b1_at-at.ensures.found c.b1_at-at.ensures.even c.if-same-gt0.true c.same_places-same.ensures.same
    c.same_places-same.ensures.inside in
    omega (arith, run.1)

pub returns-then-same-gt0-clause-writes : goal.returns-then-same-gt0-clause-writes
returns-then-same-gt0-clause-writes c =
    let run = straight_places c.args.reference.now c.args.row.now c.args.width c.same_places-same.result c.args.front c.requires.fits
    c.requires.short c.b1_at-at.result c.b1_at-at.ensures.found c.b1_at-at.ensures.even c.if-same-gt0.true c.same_places-same.ensures.same
    c.same_places-same.ensures.inside in (
      replicate c.same_places-same.result true,
      subst (λ (bits : List Bool). Appends bits c.args.writer.now c.push_bits.new.self)
          (ones_are c.same_places-same.result c.if-same-gt0.true c.same_places-same.ensures.few) c.in_ok-push_bits.ensures.ok,
      run.3,
    )

pub returns-then-b2-a1-clause-writes : goal.returns-then-b2-a1-clause-writes
returns-then-b2-a1-clause-writes c = (
  _,
  c.in_ok-push_mode.ensures.ok,
  pass_codes c.args.reference.now c.args.row.now c.args.width c.args.front c.requires.fits c.requires.short
      c.b1_at-at.result c.b1_at-at.ensures.found c.b1_at-at.ensures.even c.if-b2-a1.true,
)

pub returns-in-Some-clause-writes : goal.returns-in-Some-clause-writes
returns-in-Some-clause-writes c = (
  _,
  c.in_ok-push_mode-2.ensures.ok,
  vertical_codes c.args.reference.now c.args.row.now c.args.width c.args.front c.requires.fits c.requires.short
      c.b1_at-at.result c.b1_at-at.ensures.found c.b1_at-at.ensures.even c.in-Some.shift c.index_after.result c.if-b2-a1.false (sym
      c.shift_to.ensures ∙ c.in-Some.is),
)

pub returns-clause-writes : goal.returns-clause-writes
returns-clause-writes c = (
  _,
  c.in_ok-push_horizontal.ensures.ok,
  horizontal_written c.args.reference.now c.args.row.now c.args.width c.args.front c.requires.fits c.requires.short
      c.b1_at-at.result c.b1_at-at.ensures.found c.b1_at-at.ensures.even c.color.result c.saturating_sub.result
      (color_after c.color.result c.args.front.turns c.color.ensures) c.saturating_sub.ensures c.if-b2-a1.false
      (sym c.shift_to.ensures ∙ c.in_default.is),
)
