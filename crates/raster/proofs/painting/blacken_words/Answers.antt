use Rattle.std.proofs.Common.{arith, ◌/◌}
use Rattle.raster.proofs.PaintingLemmas.{filled_ones}
use Rattle.raster.proofs.painting.blacken_words.Goals as goal

pub returns-clause-set : goal.returns-clause-set
returns-clause-set c = λ k low h.
    filled_ones (c.args.from / 8) (c.args.end / 8) c.args.octets.now c.fill.new.self k (omega (arith, c.requires.within))
    (c.fill.ensures.after (λ y e. e)) (omega (arith, c.requires.begins)) (omega (arith, c.requires.ends))
