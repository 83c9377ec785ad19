-- What the check asks of `texts_in`.
use Rattle.std.proofs.Common.{◌∙◌}
use Rattle.clap.proofs.WalkLemmas.{raw_values-rows}
use Rattle.clap.specs.Words.{found_of}
use Rattle.faxtool.proofs.args.each_words.texts_in.Goals as goal

pub returns : goal.returns
returns c = c.get_strs.ensures ∙ raw_values-rows (found_of c.args.matches.now) c.args.id.now
