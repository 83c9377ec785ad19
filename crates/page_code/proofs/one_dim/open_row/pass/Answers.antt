use Rattle.raster.specs.Packed.{bits_of}
use Rattle.page_code.proofs.OneDimension.OpenRows.{none_before, zeros_passed}
use Rattle.page_code.proofs.OneDimension.RowsOn.{read_within}
use Rattle.page_code.proofs.one_dim.open_row.pass.Goals as goal

pub zeros_after-zeros-requires-clause-place : goal.zeros_after-zeros-requires-clause-place
zeros_after-zeros-requires-clause-place c = read_within c.args.to.now.page.width c.args.order c.args.octets.now c.args.to.now.page.rows
    c.args.to.now.place c.requires.read

pub overflow_sub-octets : goal.overflow_sub-octets
overflow_sub-octets c = read_within c.args.to.now.page.width c.args.order c.args.octets.now c.args.to.now.page.rows c.args.to.now.place
    c.requires.read

pub returns-in_default-clause-passed : goal.returns-in_default-clause-passed
returns-in_default-clause-passed c = rw c.unwrap_or.ensures (zeros_passed c.args.order c.args.octets.now c.args.to.now.place
    c.zeros_after-zeros.result c.zeros_after-zeros.ensures.zeros)

pub pass_runs-requires-2-clause-runs : goal.pass_runs-requires-2-clause-runs
pass_runs-requires-2-clause-runs c = rw c.width.ensures (none_before c.args.to.now.page.width (bits_of c.args.order c.args.octets.now)
    c.args.to.now.page.rows c.args.to.now.place c.in-Some.at c.in-Some.ensures.row)
