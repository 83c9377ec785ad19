use Rattle.std.proofs.Common.{◌+◌, ◌&&◌, ◌∙◌, ℕ, List, take, drop, ap, refl, arith, sym}
use Rattle.std.proofs.Math.Seq.{take-add}
use Rattle.hdlc.specs.EightBits.{end_no_flag}
use Rattle.hdlc.proofs.QuietRuns.{last_octet, end-append, last_of_take}
use Rattle.hdlc.proofs.flag_finder.quiet_front.Goals as goal

pub loop-count-init : goal.loop-count-init
loop-count-init c = record { within = omega arith; last = refl; quiet = refl }

pub loop-count-preserved : goal.loop-count-preserved
loop-count-preserved c =
    let octets : List ℕ = c.args.octets.now in
    let n : ℕ = c.loop-count.count in
    let step : ℕ = c.quiet_step-step.result in
    let more : List ℕ = take step (drop n octets) in
    record {
      within = omega (arith, c.quiet_step-step.ensures.within);
      last = last_of_take octets (n + step) c.args.window (omega arith) (omega (arith, c.quiet_step-step.ensures.within));
      quiet =
          ap (end_no_flag c.args.window) (take-add n step octets) ∙ (end-append (take n octets) more c.args.window
          ∙ (ap (λ t. t && end_no_flag (last_octet c.args.window (take n octets)) more) c.loop-count.invariant.quiet
          ∙ (ap (λ w. end_no_flag w more) (sym c.loop-count.invariant.last) ∙ c.quiet_step-step.ensures.quiet)));
    }
