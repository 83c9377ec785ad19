-- What the check asks of `word_in`.
use Rattle.std.proofs.Common.{rules}
use Rattle.call_logs.proofs.Words.{seen_is_utf8}
use Rattle.call_logs.proofs.log.word_in.Goals as goal

pub returns-in-Err : goal.returns-in-Err
returns-in-Err c = absurd (c.in-Err.ensures.cases.0 (seen_is_utf8 c.args.octets.now (search rules)))
