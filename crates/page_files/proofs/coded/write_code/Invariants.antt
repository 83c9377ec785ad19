use Rattle.std.proofs.Common.{◌≡◌, ◌++◌}
use Rattle.page_files.specs.CodedPages.{HoldsCode}
use Rattle.page_files.proofs.coded.write_code.Given as goal

abbrev pub invariant-loop-row : goal.invariant-loop-row
invariant-loop-row g l = record {
  coding : l.coder.coding ≡ l.fn.coding;
  order : l.coder.pending.order ≡ l.fn.order;
  width : l.coder.width ≡ l.page.width;
  all : l.yielded ++ l.row-iterator ≡ l.page.rows;
  holds : HoldsCode l.coder l.yielded l.held.items (g.W.Write.contents l.fn.writer) (g.W.Write.contents l.writer);
}
