use Rattle.std.proofs.Common.{◌≡◌, ◌≤◌, drop}
use Rattle.signals.specs.Training.{longest_zeros}
use Rattle.signals.proofs.TrainingLemmas.{longest_on}
use Rattle.signals.proofs.training.longest_run.Given as goal

abbrev pub invariant-loop-octet : goal.invariant-loop-octet
invariant-loop-octet l = record {
  within : l.run ≤ l.octet-index;
  run_within : l.run ≤ l.longest;
  so_far : longest_on l.longest l.run (drop l.octet-index l.octets) ≡ longest_zeros l.octets;
}
