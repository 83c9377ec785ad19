-- What the check asks of `later_one_dim`.
use Rattle.std.proofs.Common.{inl, refl, sym, ap, arith, ◌*◌, ℕ}
use Rattle.raster.specs.Packed.{bits_of}
use Rattle.page_files.proofs.LaterPages.{none_past, nothing_there, one_eol, page_there}
use Rattle.page_files.proofs.later_pages.later_one_dim.Goals as goal

pub loop-place-init : goal.loop-place-init
loop-place-init c = record {
  within = c.requires;
  begun = omega (arith, c.requires, c.div_ceil-start.ensures);
  stands = inl (refl, ap (λ (n : ℕ). 8 * n) c.div_ceil-start.ensures);
}

pub returns-in_default-clause-later : goal.returns-in_default-clause-later
returns-in_default-clause-later c = nothing_there c.args.used (bits_of c.args.order c.args.octets.now) c.loop-place.place
    c.loop-place.start c.loop-place.invariant.stands (sym c.in_default.ensures.zeros)

pub returns-then-zeros-lt-EOL_ZEROS-clause-later : goal.returns-then-zeros-lt-EOL_ZEROS-clause-later
returns-then-zeros-lt-EOL_ZEROS-clause-later c = page_there c.args.used (bits_of c.args.order c.args.octets.now) c.loop-place.place
    c.loop-place.start c.in-Some.zeros c.loop-place.invariant.stands (sym c.in-Some.ensures.zeros) c.if-zeros-lt-EOL_ZEROS.true

pub loop-place-preserved : goal.loop-place-preserved
loop-place-preserved c = record {
  within = omega (arith, c.in-Some.ensures.within);
  begun = omega (arith, c.in-Some.ensures.within);
  stands = one_eol c.args.used (bits_of c.args.order c.args.octets.now) c.loop-place.place c.loop-place.start c.in-Some.zeros
      c.loop-place.invariant.stands (sym c.in-Some.ensures.zeros) c.if-zeros-lt-EOL_ZEROS.false;
}

pub returns-clause-later : goal.returns-clause-later
returns-clause-later c = nothing_there c.args.used (bits_of c.args.order c.args.octets.now) c.loop-place.place c.loop-place.start
    c.loop-place.invariant.stands (none_past c.args.order c.args.octets.now c.loop-place.place (omega (arith, c.loop-place-test.false)))
