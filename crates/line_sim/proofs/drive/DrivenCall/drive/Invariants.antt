use Rattle.std.proofs.Common.{◌-◌, ◌≡◌, ◌≤◌, map}
use Rattle.line_sim.specs.Driving.{Driven, Patience}
use Rattle.line_sim.specs.Fates.{ShowsDriven, plain_fate}
use Rattle.line_sim.proofs.Fates.{Along}
use Rattle.line_sim.proofs.drive.DrivenCall.drive.Given as goal

abbrev pub invariant-loop-made : goal.invariant-loop-made
invariant-loop-made l = record {
  along :
      (p : Patience) (d : Driven) → ShowsDriven l.fn.self p d → d.fates ≡ map plain_fate l.fates →
      Along p l.self (map plain_fate l.fates) d l.made l.at;
  few : l.made ≤ l.most;
  near : l.at ≤ l.made;
}

abbrev pub decreases-loop-made : goal.decreases-loop-made
decreases-loop-made l = l.most - l.made
