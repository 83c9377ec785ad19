-- What the check asks of `frames_command`.
use Rattle.std.proofs.Common.{rules}
use Rattle.clap.specs.Words.{found_of, rows_of}
use Rattle.faxtool.proofs.JobLemmas.{no_folder}
use Rattle.faxtool.proofs.args.words.frames_command.Goals as goal

pub returns-then-is_none : goal.returns-then-is_none
returns-then-is_none c =
    no_folder (rows_of (found_of c.args.matches.now)) (search rules) (search rules) (search rules)
