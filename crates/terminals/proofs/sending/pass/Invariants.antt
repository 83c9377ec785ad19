use Rattle.std.proofs.Common.{◌≡◌, drop}
use Rattle.terminals.proofs.sending.pass.Given as goal

abbrev pub invariant-loop : goal.invariant-loop
invariant-loop l = l.bursts ≡ drop l.counter l.initial.bursts
