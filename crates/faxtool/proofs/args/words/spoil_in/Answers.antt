-- What the check asks of `spoil_in`.
use Rattle.clap.specs.Words.{found_of, rows_of}
use Rattle.faxtool.proofs.JobLemmas.{spoil_only}
use Rattle.faxtool.proofs.args.words.spoil_in.Goals as goal

pub returns-in-Some-clause-only : goal.returns-in-Some-clause-only
returns-in-Some-clause-only c =
    spoil_only (rows_of (found_of c.args.matches.now)) c.in-Some.text.now c.read_rate.result c.in-Some.ensures c.read_rate.ensures.only
