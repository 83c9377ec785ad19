use Rattle.std.proofs.Common.{rules, ◌+◌}
use Rattle.raster.proofs.WordLemmas.{shifted, in_order_word, highest_from}
use Rattle.raster.proofs.words.shifted_word.Goals as goal

pub returns : goal.returns
returns c = shifted c.args.order c.args.octets.now c.args.at c.args.within c.in_order-word.result c.first_highest-next.result
    c.requires.within (search rules) (in_order_word c.args.order c.args.octets.now c.args.at c.whole_word.result c.in_order-word.result
    c.whole_word.ensures c.in_order-word.ensures) (highest_from c.args.order c.args.octets.now (c.args.at + 8) c.first_highest-next.result
    c.first_highest-next.ensures)
