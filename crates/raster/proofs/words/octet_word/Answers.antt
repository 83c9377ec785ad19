use Rattle.raster.proofs.WordLemmas.{in_order_word}
use Rattle.raster.proofs.words.octet_word.Goals as goal

pub returns : goal.returns
returns c = in_order_word c.args.order c.args.octets.now c.args.at c.whole_word.result c.in_order.result c.whole_word.ensures
    c.in_order.ensures
