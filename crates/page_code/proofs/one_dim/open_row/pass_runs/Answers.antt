use Rattle.std.proofs.Common.{arith}
use Rattle.raster.specs.Packed.{bits_of}
use Rattle.page_code.proofs.OneDimension.OpenRows.{runs_in, runs_more, runs_stop, runs_within}
use Rattle.page_code.proofs.one_dim.open_row.pass_runs.Goals as goal

pub at-reader-requires : goal.at-reader-requires
at-reader-requires c = runs_in c.args.order c.args.octets.now c.args.to.now.page.width c.args.to.now.page.rows c.args.to.now.place
    c.args.passed c.requires.runs

pub loop-run-init : goal.loop-run-init
loop-run-init c = record {
  reader = c.at-reader.ensures;
  runs = c.requires.runs;
  within = runs_within c.args.to.now.page.width (bits_of c.args.order c.args.octets.now) c.args.to.now.page.rows c.args.to.now.place
      c.args.passed c.requires.runs;
}

pub loop-run-smaller : goal.loop-run-smaller
loop-run-smaller c =
    let more = runs_more c.args.to.now.page.width (bits_of c.args.order c.args.octets.now) c.args.to.now.page.rows c.args.to.now.place
    c.loop-run.passed c.loop-run.invariant.runs c.loop-run.reader c.read_run_within.new.self c.loop-run.invariant.reader c.in-Ok.run'
    c.if-run-passed.false c.in-Ok.ensures in
    omega (arith, more.2, more.3, c.place.ensures.place)

pub loop-run-preserved : goal.loop-run-preserved
loop-run-preserved c =
    let more = runs_more c.args.to.now.page.width (bits_of c.args.order c.args.octets.now) c.args.to.now.page.rows c.args.to.now.place
    c.loop-run.passed c.loop-run.invariant.runs c.loop-run.reader c.read_run_within.new.self c.loop-run.invariant.reader c.in-Ok.run'
    c.if-run-passed.false c.in-Ok.ensures in
    rw (c.place.ensures.place, c.other.ensures) (record { reader = more.1; runs = more.0; within = more.3 })

pub returns-in-Err-clause-rows : goal.returns-in-Err-clause-rows
returns-in-Err-clause-rows c = runs_stop c.args.to.now.page.width (bits_of c.args.order c.args.octets.now) c.args.to.now.page.rows
    c.args.to.now.place c.loop-run.passed c.loop-run.invariant.runs c.loop-run.reader c.read_run_within.new.self
    c.loop-run.invariant.reader c.in-Err.field-0 c.rows-rows.ensures.page.width c.rows-rows.ensures.page.few c.requires.read
    c.in-Err.ensures
