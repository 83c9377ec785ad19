use Rattle.std.proofs.Common.{◌+◌, ◌*◌}
use Rattle.run_tables.proofs.NumberLemmas.{word_rest}
use Rattle.run_tables.proofs.reader.BitReader.peek.Goals as goal

pub returns : goal.returns
returns c =
    rw (← c.self.view_is) (word_rest c.self.inside.order c.self.inside.octets.now (8 * c.self.inside.at + c.self.inside.within)
    c.word_at.result c.word_at.ensures)
