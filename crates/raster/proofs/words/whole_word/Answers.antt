use Rattle.std.proofs.Common.{rules}
use Rattle.raster.proofs.WordLemmas.{be_word}
use Rattle.raster.proofs.words.whole_word.Goals as goal

pub returns : goal.returns
returns c k h = rw (c.from_be_bytes.ensures) (be_word c.args.octets.now c.args.at (λ i. search rules) k h)
