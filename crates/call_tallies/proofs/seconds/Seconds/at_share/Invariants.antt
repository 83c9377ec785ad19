-- What holds in the loop of `at_share`.
use Rattle.std.proofs.Common.{◌≤◌, ◌*◌, ◌^◌, List}
use Rattle.call_tallies.specs.Seconds.{CountsSeconds}
use Rattle.call_tallies.specs.declared.many_calls.OneCall.{OneCall}
use Rattle.call_tallies.proofs.Shares.{Below}
use Rattle.call_tallies.proofs.seconds.Seconds.at_share.Given as goal

abbrev pub invariant-loop-place : goal.invariant-loop-place
invariant-loop-place l =
    (l.within ≤ l.place * 2 ^ 64) ×
    ((calls : List OneCall) → CountsSeconds l.self calls → Below l.share calls l.place l.within)
