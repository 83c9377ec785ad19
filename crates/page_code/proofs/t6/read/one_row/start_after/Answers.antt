use Rattle.std.proofs.Common.{◌∙◌, ap, drop, sym}
use Rattle.raster.specs.Packed.{bits_of}
use Rattle.run_tables.specs.Reading.{Reading, rest_of}
use Rattle.run_tables.specs.Texts.{all_zero}
use Rattle.page_code.proofs.OneDimension.OpenRows.{zeros_passed}
use Rattle.page_code.proofs.PassedRows.{passed_zeros, zero_all}
use Rattle.page_code.proofs.t6.read.one_row.start_after.Goals as goal

pub start_by-requires : goal.start_by-requires
start_by-requires c = zero_all (drop c.args.to.now.at (bits_of c.args.order c.args.octets.now))
    c.zeros_after-zeros.result c.zeros_after-zeros.ensures.zeros c.is_none.result c.is_none.ensures ∙ ap (λ (r : Reading). all_zero
    (rest_of r)) (sym c.requires.reader)

pub returns-clause-passed : goal.returns-clause-passed
returns-clause-passed c = rw c.unwrap_or-passed.ensures (passed_zeros (bits_of c.args.order c.args.octets.now) c.args.to.now _
    c.args.passed.now
    (zeros_passed c.args.order c.args.octets.now c.args.to.now.at c.zeros_after-zeros.result c.zeros_after-zeros.ensures.zeros)
    c.requires.passed)
