use Rattle.std.proofs.Common.{refl, arith}
use Rattle.run_tables.specs.Reading.{rest_of}
use Rattle.run_tables.proofs.NumberLemmas.{front_first}
use Rattle.run_tables.proofs.reader.BitReader.next_13.Goals as goal

pub returns-clause-bits : goal.returns-clause-bits
returns-clause-bits c = front_first 13 51 57 (rest_of c.args.self.now) c.peek_57.result refl (omega arith) c.peek_57.ensures
