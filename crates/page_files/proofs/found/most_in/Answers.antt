-- What the check asks of `most_in`.
use Rattle.page_files.proofs.Furthest.{most_more}
use Rattle.page_files.proofs.found.most_in.Goals as goal

pub loop-one-preserved : goal.loop-one-preserved
loop-one-preserved c = record {
  most = most_more c.args.coding c.args.said c.args.octets.now c.args.tried.now c.loop-one.one-index _ c.loop-one.most c.more_of-most.result
      c.loop-one-test.true c.loop-one.invariant.most c.more_of-most.ensures.most;
  way = λ all. c.more_of-most.ensures.way (c.loop-one.invariant.way all) (all c.loop-one.one-index _ c.loop-one-test.true);
}
