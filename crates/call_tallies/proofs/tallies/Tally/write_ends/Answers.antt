-- What the check asks of `write_ends`.
use Rattle.call_tallies.specs.ManyCalls.{all_ends}
use Rattle.call_tallies.proofs.ManyCalls.{row_more}
use Rattle.call_tallies.proofs.tallies.Tally.write_ends.Goals as goal

pub loop-why-preserved : goal.loop-why-preserved
loop-why-preserved g c calls t =
    row_more _ _ _ calls all_ends c.loop-why.why-index _ c.loop-why-test.true (c.loop-why.invariant calls t)
    (c.in_ok-write_end_of.ensures.row calls t)
