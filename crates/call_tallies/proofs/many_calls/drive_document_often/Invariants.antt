-- What holds in the loop of `drive_document_often`.
use Rattle.std.proofs.Common.{◌≡◌, ◌<◌, ◌≤◌, ◌⊎◌}
use Rattle.call_tallies.proofs.ManyCalls.{RanSo}
use Rattle.call_tallies.proofs.many_calls.drive_document_often.Given as goal

abbrev pub invariant-loop-number : goal.invariant-loop-number
invariant-loop-number g l =
    (RanSo l.options l.line l.fn.document l.number l.tally l.seconds (g.W.Write.contents l.fn.writer) (g.W.Write.contents l.writer)) ×
    ((0 < l.number) ⊎ (l.writer ≡ l.fn.writer)) × (l.number ≤ l.times) × (l.coded ≡ l.fn.document)
