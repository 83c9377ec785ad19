use Rattle.std.proofs.Common.{◌≡◌, ◌<◌, length, sym, ◌∙◌, arith, nat_eq, false, subst, ◌++◌}
use Rattle.std.proofs.lemmas.Bool.{eqb-true, eqb-false}
use Rattle.hdlc.specs.Gathers.{Keeps}
use Rattle.hdlc.proofs.GatheringLemmas.{keeps_room, keeps_full}
use Rattle.hdlc.proofs.octet_buffer.OctetBuffer.push_octet.Goals as goal

pub returns-then-is_full : goal.returns-then-is_full
returns-then-is_full c front eight size is old =
    keeps_full c.args.self.now.whole.items c.args.self.now.long front eight old size
    (eqb-true _ _ (sym c.is_full.ensures.value ∙ c.if-is_full.true))

pub returns : goal.returns
returns c front eight size is old =
    let full : nat_eq (length c.args.self.now.whole.items) 302 ≡ false = sym c.is_full.ensures.value ∙ c.if-is_full.false in
    let room : length c.args.self.now.whole.items < 302 = omega (arith, eqb-false _ _ full) in
    subst (λ xs. Keeps xs c.args.self.now.long (front ++ eight)) (sym c.push.ensures.items)
    (keeps_room c.args.self.now.whole.items c.args.self.now.long front eight c.args.octet old size is room)
