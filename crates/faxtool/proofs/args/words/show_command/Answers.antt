-- What the check asks of `show_command`.
use Rattle.clap.specs.Words.{found_of, rows_of}
use Rattle.faxtool.proofs.JobLemmas.{no_width}
use Rattle.faxtool.proofs.args.words.show_command.Goals as goal

pub returns-in_default-width_in : goal.returns-in_default-width_in
returns-in_default-width_in c = no_width (rows_of (found_of c.args.matches.now)) c.in_default-width_in.ensures
