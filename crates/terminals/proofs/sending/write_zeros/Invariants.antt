use Rattle.std.proofs.Common.{◌*◌, replicate, false}
use Rattle.run_tables.specs.Written.{Appends}
use Rattle.terminals.proofs.sending.write_zeros.Given as goal

abbrev pub invariant-loop : goal.invariant-loop
invariant-loop l = Appends (replicate (8 * l.counter) false) l.initial.writer l.writer
