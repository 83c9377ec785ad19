-- What the check asks of `marked_numbers`.
use Rattle.std.proofs.Common.{rules}
use Rattle.captures.proofs.RecordData.{no_marks, one_mark}
use Rattle.captures.proofs.records.marked_numbers.Goals as goal

pub loop-number-init : goal.loop-number-init
loop-number-init c = search (rules, no_marks)

pub loop-number-preserved : goal.loop-number-preserved
loop-number-preserved c = one_mark c.args.marks.now c.loop-number.number _ _ c.loop-number.invariant c.in_ok-push_marked.ensures
