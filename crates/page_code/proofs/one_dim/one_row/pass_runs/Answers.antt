use Rattle.std.proofs.Common.{◌≤◌, ◌+◌, ◌*◌, arith, length, rules}
use Rattle.raster.specs.Packed.{bits_of}
use Rattle.page_code.proofs.OneDimension.RowsOn.{within_bits}
use Rattle.page_code.proofs.PassedRows.{passes_more, passes_none, runs_within}
use Rattle.page_code.proofs.one_dim.one_row.pass_runs.Goals as goal

pub at-reader-requires : goal.at-reader-requires
at-reader-requires c = runs_within c.args.order c.args.octets.now c.args.to.now c.args.before c.requires.within c.requires.runs

pub overflow_add-to : goal.overflow_add-to
overflow_add-to c =
    let within : c.args.to.now.at + c.args.before.at ≤ 8 * length c.args.octets.now = runs_within c.args.order c.args.octets.now
    c.args.to.now c.args.before c.requires.within c.requires.runs in
    search rules

pub loop-run-init : goal.loop-run-init
loop-run-init c = record {
  reader = c.at-reader.ensures;
  runs = c.requires.runs;
  within = within_bits c.args.order c.args.octets.now (c.args.to.now.at + c.args.before.at) (runs_within c.args.order c.args.octets.now
      c.args.to.now c.args.before c.requires.within c.requires.runs);
}

pub loop-run-smaller : goal.loop-run-smaller
loop-run-smaller c =
    let more = passes_more (bits_of c.args.order c.args.octets.now) c.args.to.now c.loop-run.passed c.loop-run.invariant.runs
    c.loop-run.reader c.read_run_within.new.self c.loop-run.invariant.reader c.in-Ok.run' c.if-run-passed.false c.in-Ok.ensures in
    omega (arith, more.2, more.3, c.place.ensures.place)

pub loop-run-preserved : goal.loop-run-preserved
loop-run-preserved c =
    let more = passes_more (bits_of c.args.order c.args.octets.now) c.args.to.now c.loop-run.passed c.loop-run.invariant.runs
    c.loop-run.reader c.read_run_within.new.self c.loop-run.invariant.reader c.in-Ok.run' c.if-run-passed.false c.in-Ok.ensures in
    rw (c.place.ensures.place, c.other.ensures) (record { reader = more.1; runs = more.0; within = omega (arith, more.2, more.3) })

pub returns-in-Err-clause-refused : goal.returns-in-Err-clause-refused
returns-in-Err-clause-refused c = passes_none (bits_of c.args.order c.args.octets.now) c.args.to.now c.loop-run.passed
    c.loop-run.invariant.runs c.loop-run.reader c.read_run_within.new.self c.loop-run.invariant.reader c.in-Err.fault c.in-Err.ensures
    c.requires.width c.requires.few (within_bits c.args.order c.args.octets.now c.args.to.now.at c.requires.within)
