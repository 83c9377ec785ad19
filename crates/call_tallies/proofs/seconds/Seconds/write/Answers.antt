-- What the check asks of `write`.
use Rattle.call_tallies.proofs.Shares.{row_told}
use Rattle.call_tallies.proofs.seconds.Seconds.write.Goals as goal

pub returns-clause-row : goal.returns-clause-row
returns-clause-row g c calls t =
    row_told calls c.at_share-median.result c.at_share-most.result c.at_share-greatest.result (g.W.Write.contents c.args.writer.now)
    (g.W.Write.contents c.writeln.new.self) (c.at_share-median.ensures calls t) (c.at_share-most.ensures calls t)
    (c.at_share-greatest.ensures calls t) c.in_ok-writeln.ensures.bytes
