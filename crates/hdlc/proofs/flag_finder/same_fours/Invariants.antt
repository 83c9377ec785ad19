use Rattle.std.proofs.Common.{◌≡◌, ◌≤◌, ◌-◌, take, length, replicate}
use Rattle.hdlc.proofs.flag_finder.same_fours.Given as goal

abbrev pub invariant-loop-count : goal.invariant-loop-count
invariant-loop-count l = record {
  within : l.count ≤ length l.octets;
  same : take l.count l.octets ≡ replicate l.count l.octet;
}

abbrev pub decreases-loop-count : goal.decreases-loop-count
decreases-loop-count l = length l.octets - l.count
