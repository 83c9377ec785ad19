-- What the check asks of `number_in`.
use Rattle.std.specs.Str.Parse.{ParsesUnsigned, ExplainsUnsignedError, HasUnsignedDigitsIfOk}
use Rattle.clap.specs.Words.{found_of}
use Rattle.faxtool.proofs.JobLemmas.{number_reads}
use Rattle.faxtool.proofs.args.words.number_in.Goals as goal

pub returns : goal.returns
returns c = number_reads c.args.id.now (found_of c.args.matches.now)
    (λ bs r. ParsesUnsigned 32 10 bs r × ExplainsUnsignedError 10 bs r × HasUnsignedDigitsIfOk bs r)
    c.get_one.result (λ text x g. g.0) c.get_one.ensures.none c.get_one.ensures.value
