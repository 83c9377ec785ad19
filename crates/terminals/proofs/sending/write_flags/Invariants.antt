use Rattle.run_tables.specs.Written.{Appends}
use Rattle.terminals.specs.Sending.{idle}
use Rattle.terminals.proofs.sending.write_flags.Given as goal

abbrev pub invariant-loop : goal.invariant-loop
invariant-loop l = Appends (idle l.counter) l.initial.writer l.writer
