use Rattle.std.proofs.Common.{◌≡◌, ◌+◌, ◌≤◌, length, min}
use Rattle.line_sim.specs.Entries.{count_fcds}
use Rattle.line_sim.proofs.channel.fcd_count.Given as goal

abbrev pub invariant-loop-item : goal.invariant-loop-item
invariant-loop-item l =
    record { few : l.count ≤ 65535; counted : min 65535 (l.count + count_fcds l.items) ≡ min 65535 (count_fcds l.fn.items) }

abbrev pub decreases-loop-item : goal.decreases-loop-item
decreases-loop-item l = length l.items
