use Rattle.std.proofs.Common.{rules, ◌≤◌, ◌+◌, ◌-◌, arith, drop, length, subst, sym, take}
use Rattle.raster.specs.Pixels.{IsWidth}
use Rattle.page_code.specs.declared.page_rows.NextRow.TheVariants.{End, Refused, Row}
use Rattle.page_code.proofs.PassedRows.{slice_left}
use Rattle.page_code.proofs.RowReaders.{found_as, gives_end, gives_refusal, gives_row_next, held_bits}
use Rattle.page_code.proofs.page_rows.RowReader.next_row.Goals as goal

pub invariant_of-self-in-Row : goal.invariant_of-self-in-Row
invariant_of-self-in-Row c =
    let finds = found_as (Unit {0}) c.self.inside.coding c.self.inside.order c.self.inside.place c.find_next.new.to
    c.self.inside.lists.begun.lines.reference c.find_next.new.lists.begun.lines.reference (drop c.self.inside.gone c.self.inside.held.items)
    (take (length c.deref.result.now - c.self.inside.gone) (drop c.self.inside.gone c.deref.result.now))
    c.in_ok-found.found (Row c.in-Row.row) (slice_left c.deref.result.now c.self.inside.held.items
    c.self.inside.gone c.deref.ensures.value) c.in-Row.is c.in_ok-found.ensures.finds in
    let size = held_bits c.self.inside.order (drop c.self.inside.gone c.self.inside.held.items) in
    record {
      width = subst IsWidth (sym finds.1) c.self.invariant.width;
      rows = omega (arith, finds.0, finds.2);
      gone = c.self.invariant.gone;
      within = omega (arith, finds.3, size);
      few = c.self.invariant.few;
      start = omega (arith, finds.2, finds.3, size, c.self.invariant.few, c.self.invariant.start);
      passed = c.none-self-inside.ensures _ _ _;
      begun = λ used. absurd (omega (arith, used));
    }

pub overflow_add-result : goal.overflow_add-result
overflow_add-result c =
    let finds = found_as (Unit {0}) c.self.inside.coding c.self.inside.order c.self.inside.place c.find_next.new.to
    c.self.inside.lists.begun.lines.reference c.find_next.new.lists.begun.lines.reference (drop c.self.inside.gone c.self.inside.held.items)
    (take (length c.deref.result.now - c.self.inside.gone) (drop c.self.inside.gone c.deref.result.now))
    c.in_ok-found.found (End c.in-End.used) (slice_left c.deref.result.now c.self.inside.held.items
    c.self.inside.gone c.deref.ensures.value) c.in-End.is c.in_ok-found.ensures.finds in
    let within : c.self.inside.start + c.in-End.used ≤ 10486284288 = omega (
      arith,
      finds.2,
      held_bits c.self.inside.order (drop c.self.inside.gone c.self.inside.held.items),
      c.self.invariant.rows,
      c.self.invariant.few,
      c.self.invariant.start,
    ) in
    search rules

pub overflow_add-self-inside : goal.overflow_add-self-inside
overflow_add-self-inside c =
    let finds = found_as (Unit {0}) c.self.inside.coding c.self.inside.order c.self.inside.place c.find_next.new.to
    c.self.inside.lists.begun.lines.reference c.find_next.new.lists.begun.lines.reference (drop c.self.inside.gone c.self.inside.held.items)
    (take (length c.deref.result.now - c.self.inside.gone) (drop c.self.inside.gone c.deref.result.now))
    c.in_ok-found.found (Refused c.in-Refused.fault) (slice_left c.deref.result.now c.self.inside.held.items
    c.self.inside.gone c.deref.ensures.value) c.in-Refused.is c.in_ok-found.ensures.finds in
    let within : c.self.inside.start + c.in-Refused.fault.place ≤ 10486284288 = omega (
      arith,
      finds.2,
      held_bits c.self.inside.order (drop c.self.inside.gone c.self.inside.held.items),
      c.self.invariant.rows,
      c.self.invariant.few,
      c.self.invariant.start,
    ) in
    search rules

pub returns-in-Row : goal.returns-in-Row
returns-in-Row c =
    let finds = found_as (Unit {0}) c.self.inside.coding c.self.inside.order c.self.inside.place c.find_next.new.to
    c.self.inside.lists.begun.lines.reference c.find_next.new.lists.begun.lines.reference (drop c.self.inside.gone c.self.inside.held.items)
    (take (length c.deref.result.now - c.self.inside.gone) (drop c.self.inside.gone c.deref.result.now))
    c.in_ok-found.found (Row c.in-Row.row) (slice_left c.deref.result.now c.self.inside.held.items
    c.self.inside.gone c.deref.ensures.value) c.in-Row.is c.in_ok-found.ensures.finds in
    rw (← c.self.view_is) (gives_row_next c.self.inside.coding c.self.inside.order c.self.inside.place
    c.self.inside.lists.begun.lines.reference c.self.inside.start (drop c.self.inside.gone c.self.inside.held.items) c.self.invariant.within
    c.find_next.new.to c.find_next.new.lists.begun.lines.reference c.in-Row.row finds)

pub returns-in-End : goal.returns-in-End
returns-in-End c =
    let finds = found_as (Unit {0}) c.self.inside.coding c.self.inside.order c.self.inside.place c.find_next.new.to
    c.self.inside.lists.begun.lines.reference c.find_next.new.lists.begun.lines.reference (drop c.self.inside.gone c.self.inside.held.items)
    (take (length c.deref.result.now - c.self.inside.gone) (drop c.self.inside.gone c.deref.result.now))
    c.in_ok-found.found (End c.in-End.used) (slice_left c.deref.result.now c.self.inside.held.items
    c.self.inside.gone c.deref.ensures.value) c.in-End.is c.in_ok-found.ensures.finds in
    rw (← c.self.view_is) (gives_end c.self.inside.coding c.self.inside.order c.self.inside.place c.self.inside.lists.begun.lines.reference
    c.self.inside.start (drop c.self.inside.gone c.self.inside.held.items) c.self.invariant.within c.find_next.new.to
    c.find_next.new.lists.begun.lines.reference c.in-End.used finds)

pub returns-in-Refused : goal.returns-in-Refused
returns-in-Refused c =
    let finds = found_as (Unit {0}) c.self.inside.coding c.self.inside.order c.self.inside.place c.find_next.new.to
    c.self.inside.lists.begun.lines.reference c.find_next.new.lists.begun.lines.reference (drop c.self.inside.gone c.self.inside.held.items)
    (take (length c.deref.result.now - c.self.inside.gone) (drop c.self.inside.gone c.deref.result.now))
    c.in_ok-found.found (Refused c.in-Refused.fault) (slice_left c.deref.result.now c.self.inside.held.items
    c.self.inside.gone c.deref.ensures.value) c.in-Refused.is c.in_ok-found.ensures.finds in
    rw (← c.self.view_is, c.new.ensures) (gives_refusal c.self.inside.coding c.self.inside.order c.self.inside.place
    c.self.inside.lists.begun.lines.reference c.self.inside.start (drop c.self.inside.gone c.self.inside.held.items) c.self.invariant.within
    c.find_next.new.to c.find_next.new.lists.begun.lines.reference c.in-Refused.fault finds)
