use Rattle.raster.proofs.WordLemmas.{moved, in_order_word}
use Rattle.raster.proofs.words.moved_word.Goals as goal

pub returns : goal.returns
returns c k h = moved c.args.order c.args.octets.now c.args.at c.args.within c.in_order.result k (in_order_word c.args.order
    c.args.octets.now c.args.at c.whole_word.result c.in_order.result c.whole_word.ensures c.in_order.ensures) h
