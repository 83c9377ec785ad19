-- What holds in the loop of `are_seen`.
use Rattle.std.proofs.Common.{◌≡◌, drop}
use Rattle.call_logs.specs.Logs.{are_seen}
use Rattle.call_logs.proofs.log.are_seen.Given as goal

abbrev pub invariant-loop-octet : goal.invariant-loop-octet
invariant-loop-octet l = are_seen (drop l.octet-index l.octets) ≡ are_seen l.octets
