use Rattle.raster.proofs.WordLemmas.{HasOctets}
use Rattle.raster.proofs.words.last_word.Given as goal

abbrev pub invariant-loop-k : goal.invariant-loop-k
invariant-loop-k l = HasOctets l.order l.octets l.at l.k l.word
