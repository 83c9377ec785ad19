use Rattle.terminals.proofs.Sent.{one_flag}
use Rattle.terminals.proofs.sending.write_flags.Goals as goal

pub loop-preserved : goal.loop-preserved
loop-preserved c =
    one_flag c.args.writer.now c.loop.writer c.push_bits.new.self c.loop.counter c.loop.invariant c.in_ok-push_bits.ensures.ok
