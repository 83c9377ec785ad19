-- What the check asks of `line_after`.
use Rattle.std.proofs.Common.{◌∙◌, arith, sym}
use Rattle.raster.specs.Packed.{bits_of}
use Rattle.page_files.proofs.AgreedWidths.{line_on, line_there, no_line}
use Rattle.page_files.proofs.agreed_widths.line_after.Goals as goal

pub returns-in-None-clause-line : goal.returns-in-None-clause-line
returns-in-None-clause-line c =
    let bits = bits_of c.args.order c.args.octets.now in
    sym (c.loop-zeros.invariant.same ∙ no_line bits c.loop-zeros.at (sym c.in-None.ensures.zeros))

pub returns-then-zeros-ge-EOL_ZEROS-clause-line : goal.returns-then-zeros-ge-EOL_ZEROS-clause-line
returns-then-zeros-ge-EOL_ZEROS-clause-line c =
    let bits = bits_of c.args.order c.args.octets.now in
    sym (c.loop-zeros.invariant.same ∙ line_there bits c.loop-zeros.at c.in-Some.zeros (sym c.in-Some.ensures.zeros)
    (omega (arith, c.if-zeros-ge-EOL_ZEROS.true)))

pub loop-zeros-preserved : goal.loop-zeros-preserved
loop-zeros-preserved c =
    let bits = bits_of c.args.order c.args.octets.now in
    record {
      from = omega (arith, c.loop-zeros.invariant.from);
      within = omega (arith, c.in-Some.ensures.within);
      same = c.loop-zeros.invariant.same ∙ line_on bits c.loop-zeros.at c.in-Some.zeros (sym c.in-Some.ensures.zeros)
          (omega (arith, c.if-zeros-ge-EOL_ZEROS.false));
    }
