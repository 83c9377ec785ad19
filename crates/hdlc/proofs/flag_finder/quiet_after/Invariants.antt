use Rattle.std.proofs.Common.{◌≡◌, ◌≤◌, ◌<◌, ◌-◌, ◌∷◌, [], ℕ, true, take, length, get_or}
use Rattle.raster.specs.Packed.{bits_of}
use Rattle.raster.specs.declared.packed.Order.TheVariants.{LsbFirst}
use Rattle.hdlc.specs.EightBits.{ends_no_flag, end_no_flag}
use Rattle.hdlc.proofs.flag_finder.quiet_after.Given as goal

abbrev pub invariant-loop-count : goal.invariant-loop-count
invariant-loop-count l = record {
  least : 0 < l.count;
  within : l.count ≤ length l.octets;
  quiet : (last : ℕ) → ends_no_flag last (bits_of LsbFirst (get_or l.octets 0 0 ∷ [])) ≡ true
      → end_no_flag last (take l.count l.octets) ≡ true;
}

abbrev pub decreases-loop-count : goal.decreases-loop-count
decreases-loop-count l = length l.octets - l.count
