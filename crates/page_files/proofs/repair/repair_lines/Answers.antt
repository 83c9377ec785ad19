-- What the check asks of `repair_lines`.
use Rattle.std.proofs.Common.{rules, arith, refl}
use Rattle.page_files.proofs.repair.repair_lines.Goals as goal

pub returns-clause-given : goal.returns-clause-given
returns-clause-given c = λ image writes. record {
  page = c.in_ok-page.field-0.page;
  repaired = c.in_ok-page.field-0.repaired.items;
  width_is = c.in_ok-page.ensures.width;
  fine_is = c.in_ok-page.ensures.fine;
  gives = c.in_ok-page.ensures.rows;
  some = c.in_ok-page.ensures.some;
  rows_are = refl;
  repaired_are = (search rules);
  written = writes.0 (omega (arith, c.in_ok-page.ensures.some));
  listed = rw (c.deref.ensures.value, c.new-lines.ensures.items) at c.in_ok-write_repaired.ensures.lines;
}
