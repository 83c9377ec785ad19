use Rattle.std.proofs.Common.{◌≡◌, ◌≤◌, true, take, length, ◌-◌}
use Rattle.hdlc.specs.EightBits.{end_no_flag}
use Rattle.hdlc.proofs.QuietRuns.{last_octet}
use Rattle.hdlc.proofs.flag_finder.quiet_front.Given as goal

abbrev pub invariant-loop-count : goal.invariant-loop-count
invariant-loop-count l = record {
  within : l.count ≤ length l.octets;
  last : l.last ≡ last_octet l.window (take l.count l.octets);
  quiet : end_no_flag l.window (take l.count l.octets) ≡ true;
}

abbrev pub decreases-loop-count : goal.decreases-loop-count
decreases-loop-count l = length l.octets - l.count
