-- What the check asks of `rows_alone`.
use Rattle.std.proofs.Common.{arith, inl, inr, rules, subst}
use Rattle.run_tables.specs.Reading.{Reading, rest_of}
use Rattle.run_tables.specs.RowLaws.{ReadsAsRow}
use Rattle.run_tables.specs.RowReading.{RefusesRow}
use Rattle.page_files.proofs.RowsAlone.{has_row}
use Rattle.page_files.proofs.OwnWidths.{length-bits}
use Rattle.page_files.proofs.no_eols.rows_alone.Goals as goal

pub overflow_mul-place : goal.overflow_mul-place
overflow_mul-place c =
    let after = has_row c.args.width c.args.order c.args.octets.now c.loop-place.rows c.loop-place.place c.place.result c.div_ceil-place.result c.in-Ok._row
    c.at-reader.result c.read_row_1d_in.new.self c.at-reader.ensures c.in-Ok.ensures.reads c.place.ensures.place c.place.ensures.within c.div_ceil-place.ensures
    c.loop-place.invariant.to in
    omega (arith, after.within)

pub loop-place-preserved : goal.loop-place-preserved
loop-place-preserved c =
    let after = has_row c.args.width c.args.order c.args.octets.now c.loop-place.rows c.loop-place.place c.place.result c.div_ceil-place.result c.in-Ok._row
    c.at-reader.result c.read_row_1d_in.new.self c.at-reader.ensures c.in-Ok.ensures.reads c.place.ensures.place c.place.ensures.within c.div_ceil-place.ensures
    c.loop-place.invariant.to in
    record { to = after.to; within = after.within; few = omega (arith, c.if-rows-ge-MAX_ROWS.false) }

pub returns-in-Err-2-clause-rows : goal.returns-in-Err-2-clause-rows
returns-in-Err-2-clause-rows c =
    let refused : RefusesRow c.args.width c.at-reader.result c.in-Err-2._fault = search rules in (
      c.loop-place.rows,
      c.loop-place.place,
      c.loop-place.invariant.to,
      omega (arith, c.loop-place-test.true, length-bits c.args.order c.args.octets.now),
      inl (λ row used. subst (λ (r : Reading). ¬ ReadsAsRow c.args.width (rest_of r) row used) c.at-reader.ensures (refused.none row used)),
    )

pub returns-then-rows-ge-MAX_ROWS-clause-rows : goal.returns-then-rows-ge-MAX_ROWS-clause-rows
returns-then-rows-ge-MAX_ROWS-clause-rows c = (
  c.loop-place.rows,
  c.loop-place.place,
  c.loop-place.invariant.to,
  omega (arith, c.loop-place-test.true, length-bits c.args.order c.args.octets.now),
  inr (omega (arith, c.if-rows-ge-MAX_ROWS.true)),
)

pub returns-clause-rows : goal.returns-clause-rows
returns-clause-rows c = (
  c.loop-place.place,
  c.loop-place.invariant.to,
  omega (arith, c.loop-place-test.false, length-bits c.args.order c.args.octets.now),
)
