-- What holds in the loop of `count_fates`.
use Rattle.std.proofs.Common.{◌≡◌}
use Rattle.calls.specs.BadLines.{Going, Stands}
use Rattle.call_tallies.specs.TriesCounted.{Follows}
use Rattle.call_tallies.proofs.CountedSteps.{Went}
use Rattle.call_tallies.proofs.many_calls.count_fates.Given as goal

abbrev pub invariant-loop-made : goal.invariant-loop-made
invariant-loop-made l = record {
  document : l.call.live.caller.document ≡ l.fn.call.live.caller.document;
  counted : (first : Going) → Stands l.fn.call l.line l.fn.generator first →
      Went l.line first l._made l.call l.generator l.counts l.clocks × Follows l._made l.spare l.line first l.tries;
}
