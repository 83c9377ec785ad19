-- What holds in the loop of `copied_codes`.
use Rattle.std.proofs.Common.{◌≡◌, ◌++◌, drop}
use Rattle.stations.proofs.coded.copied_codes.Given as goal

abbrev pub invariant-loop-code : goal.invariant-loop-code
invariant-loop-code l = l.copy.items ++ drop l.code-index l.codes ≡ l.codes
