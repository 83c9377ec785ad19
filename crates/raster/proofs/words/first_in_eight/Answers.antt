use Rattle.raster.proofs.FirstLemmas.{word_piece}
use Rattle.raster.proofs.words.first_in_eight.Goals as goal

pub returns : goal.returns
returns c =
    word_piece c.args.octets.now c.args.at c.octet_word-word.result c.first_in_word.result c.args.bit c.octet_word-word.ensures
    c.first_in_word.ensures
