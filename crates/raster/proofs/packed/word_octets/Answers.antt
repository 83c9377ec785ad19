use Rattle.raster.proofs.WordLemmas.{octets_in_order}
use Rattle.raster.proofs.packed.word_octets.Goals as goal

pub returns : goal.returns
returns c k h = rw c.octets_of.ensures (octets_in_order c.args.order c.args.word c.in_order.result k c.in_order.ensures h)
