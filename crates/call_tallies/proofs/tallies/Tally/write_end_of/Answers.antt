-- What the check asks of `write_end_of`.
use Rattle.std.proofs.Common.{subst}
use Rattle.std.specs.Io.KnownBytes.{Appends}
use Rattle.call_tallies.specs.ManyCalls.{row_of}
use Rattle.call_tallies.proofs.tallies.Tally.write_end_of.Goals as goal

pub returns-clause-row : goal.returns-clause-row
returns-clause-row g c calls t =
    subst (λ n. Appends (g.W.Write.contents c.args.writer.now) (g.W.Write.contents c.write_end.new.writer) (row_of c.args.why n))
    (c.ended-count.ensures calls t) c.in_ok-write_end.ensures.row
