-- What the check asks of `write`.
use Rattle.call_tallies.proofs.ManyCalls.{table_told}
use Rattle.call_tallies.proofs.tallies.Tally.write.Goals as goal

pub returns-clause-table : goal.returns-clause-table
returns-clause-table g c calls t =
    table_told c.args.self.now calls (g.W.Write.contents c.args.writer.now) (g.W.Write.contents c.write_sum.new.writer)
    (g.W.Write.contents c.write_ends.new.writer) (g.W.Write.contents c.write_mild.new.writer) (g.W.Write.contents c.write_few.new.writer)
    (g.W.Write.contents c.write_sum-2.new.writer) (g.W.Write.contents c.write_sum-3.new.writer) t c.in_ok-write_sum.ensures.row
    (c.in_ok-write_ends.ensures.rows calls t) c.in_ok-write_mild.ensures.row c.in_ok-write_few.ensures.row c.in_ok-write_sum-2.ensures.row
    c.in_ok-write_sum-3.ensures.row
