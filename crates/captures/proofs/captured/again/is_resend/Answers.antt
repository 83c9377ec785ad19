-- What the check asks of `is_resend`.
use Rattle.std.proofs.Common.{◌≡◌, ◌<◌, arith, subst}
use Rattle.captures.proofs.CapturedSteps.{differs, one_same, same_to_all}
use Rattle.captures.proofs.captured.again.is_resend.Goals as goal

pub returns-then-not-is_same_frame : goal.returns-then-not-is_same_frame
returns-then-not-is_same_frame c =
    let less : c.loop-number.number < 256 = omega arith in
    differs c.args.had.now.frames c.args.coming.now.frames c.loop-number.number c.is_same_frame.result less
    (rw (← c.frame.ensures.data, ← c.frame-in-loop-number.ensures.data) c.is_same_frame.ensures) c.if-not-is_same_frame.true

pub returns : goal.returns
returns c =
    let all : c.loop-number.number ≡ 256 = omega arith in
    same_to_all c.args.had.now.frames c.args.coming.now.frames c.loop-number.number all c.loop-number.invariant
