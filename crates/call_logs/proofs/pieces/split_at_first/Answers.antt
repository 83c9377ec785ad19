-- What the check asks of `split_at_first`.
use Rattle.call_logs.proofs.Splitting.{none_yet, none_here, cut_here, cut_nowhere}
use Rattle.call_logs.proofs.pieces.split_at_first.Goals as goal

pub loop-place-init : goal.loop-place-init
loop-place-init c = none_yet c.args.separator c.args.octets.now

pub returns-then-octets-place-clause-pieces : goal.returns-then-octets-place-clause-pieces
returns-then-octets-place-clause-pieces c =
    cut_here c.args.separator c.args.octets.now c.loop-place.place 0 c.loop-place-test.true c.if-octets-place.true c.loop-place.invariant

pub loop-place-preserved : goal.loop-place-preserved
loop-place-preserved c =
    none_here c.args.separator c.args.octets.now c.loop-place.place 0 c.loop-place-test.true c.if-octets-place.false c.loop-place.invariant

pub returns-clause-pieces : goal.returns-clause-pieces
returns-clause-pieces c = cut_nowhere c.args.separator c.args.octets.now c.loop-place.place c.loop-place-test.false c.loop-place.invariant
