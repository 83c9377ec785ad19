use Rattle.std.proofs.Common.{◌≡◌, ◌≤◌, refl, ap, ◌∙◌, sym, length, arith, true, false}
use Rattle.hdlc.specs.Gaps.{checks}
use Rattle.hdlc.proofs.Collecting.{class_checked}
use Rattle.hdlc.proofs.gap.Gap.class.Goals as goal

pub returns-then-not-checked : goal.returns-then-not-checked
returns-then-not-checked c gap old =
    let five : 5 ≤ length c.args.self.now.unstuffed.whole.items = omega arith in
    let wrong : checks c.args.self.now.unstuffed.whole.items ≡ false = ap checks (sym c.as_slice.ensures.value)
    ∙ (sym c.checked.ensures ∙ c.if-not-checked.true) in
    sym (class_checked c.args.self.now gap old c.if-self.false (omega arith) five c.if-self-2.false ∙ (rw wrong refl))

pub returns : goal.returns
returns c gap old =
    let five : 5 ≤ length c.args.self.now.unstuffed.whole.items = omega arith in
    let right : checks c.args.self.now.unstuffed.whole.items ≡ true = ap checks (sym c.as_slice.ensures.value)
    ∙ (sym c.checked.ensures ∙ c.if-not-checked.false) in
    sym (class_checked c.args.self.now gap old c.if-self.false (omega arith) five c.if-self-2.false ∙ (rw right refl))
