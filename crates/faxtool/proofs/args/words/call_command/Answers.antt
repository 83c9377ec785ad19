-- What the check asks of `call_command`.
use Rattle.clap.specs.Words.{found_of, rows_of}
use Rattle.faxtool.proofs.JobLemmas.{no_line, no_options, no_times}
use Rattle.faxtool.proofs.args.words.call_command.Goals as goal

pub returns-in_default : goal.returns-in_default
returns-in_default c = no_options (rows_of (found_of c.args.matches.now)) c.in_default.ensures

pub returns-in-Err : goal.returns-in-Err
returns-in-Err c = no_line (rows_of (found_of c.args.matches.now)) c.in_default-text_in-2.ensures c.in-Err.ensures

pub returns-in-Err-times_in : goal.returns-in-Err-times_in
returns-in-Err-times_in c =
    no_times (rows_of (found_of c.args.matches.now)) c.in_default-text_in-2.ensures c.in-Err-times_in.ensures
