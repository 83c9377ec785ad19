-- What the check asks of `busy_in`.
use Rattle.clap.specs.Words.{found_of, rows_of}
use Rattle.faxtool.proofs.JobLemmas.{busy_only}
use Rattle.faxtool.proofs.args.words.busy_in.Goals as goal

pub returns-in-Some-clause-only : goal.returns-in-Some-clause-only
returns-in-Some-clause-only c =
    busy_only (rows_of (found_of c.args.matches.now)) c.in-Some.text.now c.read_rate.result c.in-Some.ensures c.read_rate.ensures.only
