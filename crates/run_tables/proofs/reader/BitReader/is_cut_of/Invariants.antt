use Rattle.std.proofs.Common.{◌≡◌, ◌+◌, drop}
use Rattle.run_tables.specs.Codes.{text}
use Rattle.run_tables.specs.Texts.{begins}
use Rattle.run_tables.proofs.reader.BitReader.is_cut_of.Given as goal

abbrev pub invariant-loop-by : goal.invariant-loop-by
invariant-loop-by l = begins (drop (l.self.place + l.by) l.self.bits) (text (drop l.by l.digits)) ≡ begins (drop l.self.place l.self.bits)
    (text l.digits)
