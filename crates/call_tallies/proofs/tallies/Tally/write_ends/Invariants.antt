-- What holds in the loop of `write_ends`.
use Rattle.std.proofs.Common.{List, take}
use Rattle.std.specs.Io.KnownBytes.{Appends}
use Rattle.std.specs.List.{flat_map}
use Rattle.call_tallies.specs.ManyCalls.{Tallies, end_row}
use Rattle.call_tallies.specs.declared.many_calls.OneCall.{OneCall}
use Rattle.call_tallies.proofs.tallies.Tally.write_ends.Given as goal

abbrev pub invariant-loop-why : goal.invariant-loop-why
invariant-loop-why g l =
    (calls : List OneCall) → Tallies l.self calls →
    Appends (g.W.Write.contents l.fn.writer) (g.W.Write.contents l.writer) (flat_map (end_row calls) (take l.why-index l.why-items))
