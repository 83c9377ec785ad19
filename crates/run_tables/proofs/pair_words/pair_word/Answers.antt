use Rattle.std.proofs.Common.{◌+◌, ◌*◌, refl}
use Rattle.run_tables.proofs.PairLemmas.{words_held}
use Rattle.run_tables.proofs.pair_words.pair_word.Goals as goal

pub bounds-held-black : goal.bounds-held-black
bounds-held-black c = (words_held _ c.args.black c.args.white (64 * c.args.black + c.args.white) c.words-held.ensures.words c.words-held.ensures.short
    c.requires.black c.requires.white refl).0

pub returns-clause-words : goal.returns-clause-words
returns-clause-words c = (words_held _ c.args.black c.args.white (64 * c.args.black + c.args.white) c.words-held.ensures.words c.words-held.ensures.short
    c.requires.black c.requires.white refl).1

pub returns-clause-short : goal.returns-clause-short
returns-clause-short c = (words_held _ c.args.black c.args.white (64 * c.args.black + c.args.white) c.words-held.ensures.words c.words-held.ensures.short
    c.requires.black c.requires.white refl).2
