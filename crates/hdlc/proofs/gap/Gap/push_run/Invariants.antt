use Rattle.std.proofs.Common.{◌≡◌, ◌≤◌, ◌<◌, ◌-◌, ◌++◌, ◌∷◌, List, Bool, take, drop, length}
use Rattle.raster.specs.Packed.{bits_of}
use Rattle.raster.specs.declared.packed.Order.TheVariants.{LsbFirst}
use Rattle.hdlc.specs.Collects.{Collects}
use Rattle.hdlc.specs.EightBits.{four}
use Rattle.hdlc.specs.Gathers.{Gathers, IsGathering}
use Rattle.hdlc.proofs.gap.Gap.push_run.Given as goal

abbrev pub invariant-loop-at : goal.invariant-loop-at
invariant-loop-at l = record {
  least : 3 ≤ l.at;
  within : l.at ≤ length l.octets;
  few : l.state.part < 32;
  sound : IsGathering l.state;
  next : four l.word ≡ take 4 (drop (l.at - 3) (l.first ∷ l.octets));
  taken : (gap : List Bool) → Collects l.fn.self gap
      → Gathers l.self.unstuffed l.state (gap ++ bits_of LsbFirst (take (l.at - 3) (l.first ∷ l.octets)));
}

abbrev pub decreases-loop-at : goal.decreases-loop-at
decreases-loop-at l = length l.octets - l.at
