use Rattle.std.proofs.Common.{◌≡◌, drop}
use Rattle.signals.specs.Agreement.{after_speed}
use Rattle.signals.proofs.agreement.after.Given as goal

abbrev pub invariant-loop-place : goal.invariant-loop-place
invariant-loop-place l = after_speed l.speed (drop l.place l.speeds) ≡ after_speed l.speed l.speeds
