-- What the check asks of `write_sent`.
use Rattle.std.proofs.lemmas.Result.{on_ok_weaker}
use Rattle.calls.proofs.SentItems.{both_sent}
use Rattle.calls.proofs.sent.write_sent.Goals as goal

pub returns-clause-sent : goal.returns-clause-sent
returns-clause-sent g c =
    on_ok_weaker c.write_from-2.result
    (both_sent c.args.counts c.args.live.now (g.T.CallWriter.written c.args.writer.now) (g.T.CallWriter.written c.write_from.new.writer)
    (g.T.CallWriter.written c.write_from-2.new.writer) c.in_ok-write_from.ensures.sent) c.write_from-2.ensures.sent
