use Rattle.std.proofs.Common.{refl}
use Rattle.run_tables.specs.Codes.{code_word}
use Rattle.run_tables.specs.Numbers.{number_text}
use Rattle.run_tables.specs.WriteTables.{pair_words}
use Rattle.run_tables.proofs.pair_words.words.Goals as goal

pub returns : goal.returns
unfolding number_text pair_words code_word
returns c = record { words = refl; short = refl }
