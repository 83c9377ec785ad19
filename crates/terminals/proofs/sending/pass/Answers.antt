use Rattle.terminals.proofs.Sent.{passed}
use Rattle.terminals.proofs.sending.pass.Goals as goal

pub loop-preserved : goal.loop-preserved
loop-preserved c =
    passed c.args.bursts.now c.loop.bursts c.take_next-passed.new.self c.loop.counter c.take_next-passed.result c.loop.invariant
    c.take_next-passed.ensures
