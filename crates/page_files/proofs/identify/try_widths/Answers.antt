-- What the check asks of `try_widths`.
use Rattle.page_files.proofs.Identifying.{form_more, tried_more}
use Rattle.page_files.proofs.identify.try_widths.Goals as goal

pub loop-width-preserved : goal.loop-width-preserved
loop-width-preserved c = record {
  forms = form_more c.args.coding c.args.source.now.order c.args.widths.now c.loop-width.width-index _ c.args.results.now.tried.items
      c.loop-width.results.tried.items c.add.new.self.tried.items c.in_ok-one.one c.loop-width-test.true c.in_ok-add.ensures.tried
      c.in_ok-one.ensures.form c.loop-width.invariant.forms;
  each = λ all. tried_more c.args.source.now.octets c.loop-width.results.tried.items c.add.new.self.tried.items c.in_ok-one.one
      c.in_ok-add.ensures.tried c.in_ok-one.ensures.tried (c.loop-width.invariant.each all);
  found = λ had. c.add.ensures.found c.args.source.now.octets (c.loop-width.invariant.found had) c.in_ok-one.ensures.page;
}
