use Rattle.std.proofs.Common.{rules}
use Rattle.raster.proofs.WordLemmas.{shifted}
use Rattle.raster.proofs.words.last_shifted_word.Goals as goal

pub returns : goal.returns
returns c = shifted c.args.order c.args.octets.now c.args.at c.args.within c.octet_word-word.result c.octet_or_zero-next.result
    c.requires.within (search rules) c.octet_word-word.ensures c.octet_or_zero-next.ensures
