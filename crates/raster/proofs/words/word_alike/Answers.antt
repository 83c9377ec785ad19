use Rattle.raster.proofs.WordLemmas.{bit_of_all}
use Rattle.raster.proofs.words.word_alike.Goals as goal

pub returns-then-bit : goal.returns-then-bit
returns-then-bit c k h = rw c.if-bit.true (bit_of_all k h)
