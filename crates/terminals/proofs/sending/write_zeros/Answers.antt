use Rattle.terminals.proofs.Sent.{one_octet}
use Rattle.terminals.proofs.sending.write_zeros.Goals as goal

pub loop-preserved : goal.loop-preserved
loop-preserved c =
    one_octet c.args.writer.now c.loop.writer c.push_bits.new.self c.loop.counter c.loop.invariant c.in_ok-push_bits.ensures.ok
