use Rattle.std.proofs.Common.{◌≡◌, ◌++◌, take}
use Rattle.run_tables.specs.Codes.{text}
use Rattle.run_tables.proofs.writer.BitWriter.push_digits.Given as goal

abbrev pub invariant-loop-digit : goal.invariant-loop-digit
invariant-loop-digit l = l.self ≡ record l.fn.self { bits = l.fn.self.bits ++ text (take l.digit-index l.digits) }
