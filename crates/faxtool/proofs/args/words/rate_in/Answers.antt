-- What the check asks of `rate_in`.
use Rattle.clap.specs.Words.{found_of, rows_of}
use Rattle.faxtool.proofs.JobLemmas.{rate_only}
use Rattle.faxtool.proofs.args.words.rate_in.Goals as goal

pub returns-in-Some-clause-only : goal.returns-in-Some-clause-only
returns-in-Some-clause-only c =
    rate_only c.args.id.now (rows_of (found_of c.args.matches.now)) c.in-Some.text.now c.read_rate.result c.in-Some.ensures
    c.read_rate.ensures.only
