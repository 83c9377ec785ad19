-- What the check asks of `name_lacking`.
use Rattle.captures.proofs.CapturedSteps.{one_lacks}
use Rattle.captures.proofs.captured.name_lacking.Goals as goal

pub loop-number-preserved : goal.loop-number-preserved
loop-number-preserved c =
    one_lacks c.args.waiting.mark c.args.frames.now.frames c.loop-number.number c.args.out.now.items c.loop-number.out.items
    c.name_one.new.out.items c.loop-number.invariant c.in_ok-name_one.ensures.named
