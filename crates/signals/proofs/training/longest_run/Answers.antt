use Rattle.std.proofs.Common.{◌≡◌, ◌<◌, length, max, [], drop, arith}
use Rattle.std.proofs.lemmas.List.{drop_all}
use Rattle.signals.proofs.TrainingLemmas.{none-before, zero-more, zero-less}
use Rattle.signals.proofs.training.longest_run.Goals as goal
use Rattle.signals.proofs.training.longest_run.Goals.{then-octet-eq0, else-octet-eq0}

pub loop-octet-init : goal.loop-octet-init
loop-octet-init c = record { within = omega arith; run_within = omega arith; so_far = none-before c.args.octets.now }

pub loop-octet-preserved : goal.loop-octet-preserved
loop-octet-preserved c =
    let here : c.loop-octet.octet-index < length c.args.octets.now = c.loop-octet-test.true in
    let greater : c.max-longest.result ≡ max c.if-octet-eq0.run c.loop-octet.longest = c.max-longest.ensures in
    elim c.if-octet-eq0.branch [
      | then-octet-eq0 w ↦
          record {
            within = omega (arith, w.run-is);
            run_within = omega arith;
            so_far = rw (greater, w.run-is) (zero-more _ _ _ _ here w.if-octet-eq0.true c.loop-octet.invariant.so_far);
          }
      | else-octet-eq0 w ↦
          record {
            within = omega (arith, w.run-is);
            run_within = omega arith;
            so_far = rw (greater, w.run-is)
                (zero-less _ _ _ _ here w.if-octet-eq0.false c.loop-octet.invariant.run_within c.loop-octet.invariant.so_far);
          }
    ]

pub returns : goal.returns
returns c =
    let past : drop c.loop-octet.octet-index c.args.octets.now ≡ [] = drop_all _ _ c.loop-octet-test.false in
    let so_far = rw past at c.loop-octet.invariant.so_far in
    omega (arith, so_far, c.loop-octet.invariant.run_within)
