-- What the check asks of `write_code`.
use Rattle.std.proofs.Common.{◌∙◌}
use Rattle.raster.proofs.StoredLemmas.{list_ended, list_taken}
use Rattle.page_files.proofs.CodedRows.{one_row_more, whole_code}
use Rattle.page_files.proofs.coded.write_code.Goals as goal

pub loop-row-preserved : goal.loop-row-preserved
loop-row-preserved g c = record {
  coding = c.in_ok-code_row.ensures.same.coding ∙ c.loop-row.invariant.coding;
  order = c.in_ok-code_row.ensures.same.order ∙ c.loop-row.invariant.order;
  width = c.in_ok-code_row.ensures.same.width ∙ c.loop-row.invariant.width;
  all = list_taken c.loop-row.yielded c.loop-row.row-iterator c.next.new.self c.args.page.now.rows c.in-Some.row c.loop-row.invariant.all
      (rw c.in-Some.is at c.next.ensures.steps);
  holds = one_row_more c.loop-row.coder c.code_row.new.coder c.loop-row.yielded c.in-Some.row
      c.loop-row.held.items c.code_row.new.held.items c.write_held.new.held.items (g.W.Write.contents c.args.writer.now)
      (g.W.Write.contents c.loop-row.writer) (g.W.Write.contents c.write_held.new.writer)
      c.in_ok-code_row.ensures.more c.in_ok-write_held.ensures.written c.loop-row.invariant.holds;
}

pub returns-clause-written : goal.returns-clause-written
returns-clause-written g c =
    let appends = rw c.deref.ensures.value at c.in_ok-write_all.ensures.bytes in
    let all = list_ended c.loop-row.yielded c.loop-row.row-iterator c.args.page.now.rows c.loop-row.invariant.all c.in-None.ensures.steps.0 in
    whole_code c.loop-row.coder c.args.coding c.args.order c.args.page.now.width c.args.page.now.rows
    c.loop-row.held.items c.end_code.new.held.items (g.W.Write.contents c.args.writer.now) (g.W.Write.contents c.loop-row.writer)
    (g.W.Write.contents c.write_all.new.self) c.loop-row.invariant.coding c.loop-row.invariant.order c.loop-row.invariant.width
    (rw all at c.loop-row.invariant.holds) c.in_ok-end_code.ensures.end appends
