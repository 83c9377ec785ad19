-- What the check asks of `eols_end`.
use Rattle.std.proofs.Common.{◌∙◌, arith, sym}
use Rattle.raster.specs.Packed.{bits_of}
use Rattle.page_files.proofs.MarkEnds.{end_all, end_none, end_read, end_short}
use Rattle.page_files.proofs.marks.eols_end.Goals as goal

pub returns-in_default-clause-end : goal.returns-in_default-clause-end
returns-in_default-clause-end c =
    let bits = bits_of c.args.order c.args.octets.now in
    sym (c.loop-read.invariant.same ∙ end_none bits c.loop-read.at c.args.eols c.loop-read.read c.loop-read-test.true
    (sym c.zeros_at.ensures.zeros ∙ c.in_default.is))

pub returns-then-zeros-lt-EOL_ZEROS-clause-end : goal.returns-then-zeros-lt-EOL_ZEROS-clause-end
returns-then-zeros-lt-EOL_ZEROS-clause-end c =
    let bits = bits_of c.args.order c.args.octets.now in
    sym (c.loop-read.invariant.same ∙ end_short bits c.loop-read.at c.args.eols c.loop-read.read c.in-Some.zeros c.loop-read-test.true
    (sym c.zeros_at.ensures.zeros ∙ c.in-Some.is) c.if-zeros-lt-EOL_ZEROS.true)

pub loop-read-preserved : goal.loop-read-preserved
loop-read-preserved c =
    let bits = bits_of c.args.order c.args.octets.now in
    record {
      within = omega (arith, c.in-Some.ensures.within);
      same = c.loop-read.invariant.same ∙ end_read bits c.loop-read.at c.args.eols c.loop-read.read c.in-Some.zeros c.loop-read-test.true
          (sym c.zeros_at.ensures.zeros ∙ c.in-Some.is) (omega (arith, c.if-zeros-lt-EOL_ZEROS.false));
    }

pub returns-clause-end : goal.returns-clause-end
returns-clause-end c =
    let bits = bits_of c.args.order c.args.octets.now in
    sym (c.loop-read.invariant.same ∙ end_all bits c.loop-read.at c.args.eols c.loop-read.read (omega (arith, c.loop-read-test.false)))
