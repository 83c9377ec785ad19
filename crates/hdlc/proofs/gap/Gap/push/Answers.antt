use Rattle.std.proofs.Common.{refl, arith}
use Rattle.hdlc.proofs.Collecting.{collects_stuffed, collects_unstuffed}
use Rattle.hdlc.proofs.gap.Gap.push.Goals as goal

pub returns-then-stuffed : goal.returns-then-stuffed
returns-then-stuffed c gap old =
    collects_stuffed c.args.self.now _ c.args.bit gap old
    (record { seen = λ h. omega arith; ones = c.ones_after-self.ensures; aborted = refl }) (omega arith) refl

pub returns : goal.returns
returns c gap old =
    collects_unstuffed c.args.self.now _ c.args.bit gap old
    (record { seen = λ h. omega arith; ones = c.ones_after-self.ensures; aborted = refl }) (omega arith) (c.push.ensures _ old.unstuffed)
