-- What the check asks of `add_others`.
use Rattle.page_files.proofs.LikelyWidths.{others_more}
use Rattle.page_files.proofs.found.add_others.Goals as goal

pub loop-other-preserved : goal.loop-other-preserved
loop-other-preserved c = record {
  others = others_more c.args.width c.args.widths.now c.loop-other.other-index _ c.args.list.now.items c.loop-other.list.items
      c.add_other.new.list.items c.loop-other-test.true c.loop-other.invariant.others c.in_ok-add_other.ensures.other;
  pages = λ all. c.in_ok-add_other.ensures.page (c.loop-other.invariant.pages all);
}
