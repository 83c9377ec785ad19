use Rattle.std.proofs.Common.{◌++◌, ℕ, List, take, arith}
use Rattle.raster.specs.Packed.{bits_of}
use Rattle.raster.specs.declared.packed.Order.TheVariants.{LsbFirst}
use Rattle.hdlc.proofs.BitPlaces.{octets-none, octets-next}
use Rattle.hdlc.proofs.FlagRuns.{repeat_all}
use Rattle.hdlc.proofs.flag_finder.FlagFinder.repeated_front.Goals as goal

pub returns-then-not-repeats-clause-same : goal.returns-then-not-repeats-clause-same
returns-then-not-repeats-clause-same c counts queue bits handed old = rw (octets-none bits) old

pub loop-count-init : goal.loop-count-init
loop-count-init c = record {
  within = omega (arith, c.same_fours-count.ensures.within);
  same = λ counts queue bits handed old.
      rw c.same_fours-count.ensures.same
      (repeat_all c.args.self.now counts queue handed (λ bs was. c.repeats.ensures c.if-not-repeats.false counts queue bs handed was)
      c.same_fours-count.result bits old);
}

pub loop-count-preserved : goal.loop-count-preserved
loop-count-preserved c =
    let octets : List ℕ = c.args.octets.now in
    let n : ℕ = c.loop-count.count in
    record {
      within = omega arith;
      same = λ counts queue bits handed old.
          rw (octets-next bits octets n 0 (omega arith), c.if-octets-count.false)
          (c.repeats.ensures c.if-not-repeats.false counts queue (bits ++ bits_of LsbFirst (take n octets)) handed
          (c.loop-count.invariant.same counts queue bits handed old));
    }
