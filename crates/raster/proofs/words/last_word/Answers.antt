use Rattle.std.proofs.Common.{rules}
use Rattle.raster.proofs.WordLemmas.{push_octet}
use Rattle.raster.proofs.words.last_word.Goals as goal

pub loop-k-preserved : goal.loop-k-preserved
loop-k-preserved c = push_octet c.args.order c.args.octets.now c.args.at c.loop-k.k c.loop-k.word _ c.loop-k-test.true
    c.octet_or_zero.ensures (search rules) c.loop-k.invariant
