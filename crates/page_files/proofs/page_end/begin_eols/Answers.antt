-- What the check asks of `begin_eols`.
use Rattle.std.proofs.Common.{◌∙◌, arith, sym}
use Rattle.raster.specs.Packed.{bits_of}
use Rattle.page_files.proofs.LineEnds.{eol_none, eol_read, eol_short, eols_all}
use Rattle.page_files.proofs.page_end.begin_eols.Goals as goal

pub returns-in_default : goal.returns-in_default
returns-in_default c =
    let bits = bits_of c.args.order c.args.octets.now in
    sym (c.loop-read.invariant.same ∙ eol_none bits c.loop-read.at c.args.eols c.loop-read.read c.loop-read-test.true
    (sym c.zeros_at.ensures.zeros ∙ c.in_default.is))

pub returns-then-zeros-lt-EOL_ZEROS : goal.returns-then-zeros-lt-EOL_ZEROS
returns-then-zeros-lt-EOL_ZEROS c =
    let bits = bits_of c.args.order c.args.octets.now in
    sym (c.loop-read.invariant.same ∙ eol_short bits c.loop-read.at c.args.eols c.loop-read.read c.in-Some.zeros c.loop-read-test.true
    (sym c.zeros_at.ensures.zeros ∙ c.in-Some.is) c.if-zeros-lt-EOL_ZEROS.true)

pub loop-read-preserved : goal.loop-read-preserved
loop-read-preserved c =
    let bits = bits_of c.args.order c.args.octets.now in
    record {
      within = omega (arith, c.in-Some.ensures.within);
      same = c.loop-read.invariant.same ∙ eol_read bits c.loop-read.at c.args.eols c.loop-read.read c.in-Some.zeros c.loop-read-test.true
          (sym c.zeros_at.ensures.zeros ∙ c.in-Some.is) (omega (arith, c.if-zeros-lt-EOL_ZEROS.false));
    }

pub returns : goal.returns
returns c =
    let bits = bits_of c.args.order c.args.octets.now in
    sym (c.loop-read.invariant.same ∙ eols_all bits c.loop-read.at c.args.eols c.loop-read.read (omega (arith, c.loop-read-test.false)))
