use Rattle.std.proofs.Common.{◌+◌, ◌*◌, arith}
use Rattle.run_tables.proofs.NumberLemmas.{word_front}
use Rattle.run_tables.proofs.reader.BitReader.peek_57.Goals as goal

pub returns-then-self-lt8 : goal.returns-then-self-lt8
returns-then-self-lt8 c k h = c.peek.ensures k (omega arith)

pub returns : goal.returns
returns c k h =
    rw (← c.self.view_is) (word_front c.self.inside.order c.self.inside.octets.now (8 * c.self.inside.at + c.self.inside.within)
    c.self.inside.within c.word_of_eight.result k c.word_of_eight.ensures (omega arith))
