-- What the check asks of `overlay`.
use Rattle.std.proofs.Common.{◌≡◌, subst, arith}
use Rattle.captures.proofs.CapturedSteps.{LaidBelow, all_laid}
use Rattle.captures.proofs.captured.again.overlay.Goals as goal

pub returns-clause-frames : goal.returns-clause-frames
returns-clause-frames c =
    let all : c.loop-number.number ≡ 256 = omega arith in
    all_laid c.args.frames.now.frames c.args.later.now.frames c.loop-number.frames.frames c.ready-ready-2.ensures.store.places
    (subst (λ n. LaidBelow c.args.frames.now.frames c.args.later.now.frames n c.loop-number.frames.frames) all
    c.loop-number.invariant.laid)
