use Rattle.std.proofs.Common.{◌+◌, ◌*◌, ◌≤◌, length, arith, refl, rules}
use Rattle.page_code.specs.declared.one_dim.Start.TheVariants.{Row}
use Rattle.raster.specs.Packed.{bits_of}
use Rattle.page_code.proofs.OneDimension.RowsOn.{eol_fits, finds_after_eol, finds_bad, finds_end, finds_first, finds_none, within_bits}
use Rattle.page_code.proofs.one_dim.next_row.Goals as goal

pub start_at-requires : goal.start_at-requires
start_at-requires c = eol_fits c.args.order c.args.octets.now c.args.to.now.place c.in-Present.bits c.requires c.in-Present.ensures

pub overflow_add-to : goal.overflow_add-to
overflow_add-to c =
    let within : c.args.to.now.place + c.in-Present.bits ≤ 8 * length c.args.octets.now = eol_fits c.args.order c.args.octets.now
    c.args.to.now.place c.in-Present.bits c.requires c.in-Present.ensures in
    search rules

pub returns-in-Present-clause-finds : goal.returns-in-Present-clause-finds
returns-in-Present-clause-finds c = finds_after_eol (bits_of c.args.order c.args.octets.now) c.args.to.now.page.width
    c.args.to.now.page.rows c.args.to.now.place c.in-Present.bits c.start_at.result (within_bits c.args.order c.args.octets.now
    c.args.to.now.place c.requires) c.in-Present.ensures (rw (c.len-rows.ensures.length, c.rows.ensures.rows) at c.start_at.ensures)

pub returns-then-rows-eq0-clause-finds : goal.returns-then-rows-eq0-clause-finds
returns-then-rows-eq0-clause-finds c = finds_first (bits_of c.args.order c.args.octets.now) c.args.to.now.page.width
    c.args.to.now.page.rows c.args.to.now.place (within_bits c.args.order c.args.octets.now c.args.to.now.place c.requires) (rw
    (c.len-rows.ensures.length, c.rows.ensures.rows) at c.if-rows-eq0.true) c.in-Absent.ensures

pub returns-else-rows-eq0-clause-finds : goal.returns-else-rows-eq0-clause-finds
returns-else-rows-eq0-clause-finds c = rw c.new.ensures (finds_bad (bits_of c.args.order c.args.octets.now) c.args.to.now.page.width
    c.args.to.now.page.rows c.args.to.now.place (within_bits c.args.order c.args.octets.now c.args.to.now.place c.requires) (omega (
      arith,
      rw (c.len-rows.ensures.length, c.rows.ensures.rows) at c.if-rows-eq0.false,
    )) c.in-Absent.ensures)

pub returns-then-rows-eq0-2-clause-finds : goal.returns-then-rows-eq0-2-clause-finds
returns-then-rows-eq0-2-clause-finds c = rw c.new-then-rows-eq0-2.ensures (finds_none (bits_of c.args.order c.args.octets.now)
    c.args.to.now.page.width c.args.to.now.page.rows c.args.to.now.place (within_bits c.args.order c.args.octets.now c.args.to.now.place
    c.requires) (rw (c.len-rows.ensures.length, c.rows.ensures.rows) at c.if-rows-eq0-2.true) c.in-OnlyZeros.ensures)

pub returns-else-rows-eq0-2-clause-finds : goal.returns-else-rows-eq0-2-clause-finds
returns-else-rows-eq0-2-clause-finds c = finds_end (bits_of c.args.order c.args.octets.now) c.args.to.now.page.width
    c.args.to.now.page.rows c.args.to.now.place (within_bits c.args.order c.args.octets.now c.args.to.now.place c.requires) (omega (
      arith,
      rw (c.len-rows.ensures.length, c.rows.ensures.rows) at c.if-rows-eq0-2.false,
    )) c.in-OnlyZeros.ensures

pub returns-in-Some-clause-finds : goal.returns-in-Some-clause-finds
returns-in-Some-clause-finds c = finds_after_eol (bits_of c.args.order c.args.octets.now) c.args.to.now.page.width
    c.args.to.now.page.rows c.args.to.now.place c.in-Some.bits (Row (c.args.to.now.place + c.in-Some.bits))
    (within_bits c.args.order c.args.octets.now c.args.to.now.place c.requires) c.in-Some.ensures.eol
    (refl, c.in-Some.ensures.code, rw (c.len-rows.ensures.length, c.rows.ensures.rows) at c.if-rows-lt-MAX_ROWS.true)
