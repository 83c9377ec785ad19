use Rattle.std.proofs.Common.{◌≡◌, ◌<◌, length, refl, sym, ◌∙◌, arith, nat_eq, false}
use Rattle.std.proofs.lemmas.Bool.{eqb-true, eqb-false}
use Rattle.hdlc.proofs.Assembling.{in_octet, past_octet, one_octet}
use Rattle.hdlc.proofs.octet_buffer.OctetBuffer.push.Goals as goal

pub returns-then-self-lt7 : goal.returns-then-self-lt7
returns-then-self-lt7 c bits old = in_octet _ _ bits c.args.bit old c.if-self-lt7.true refl c.shifted-self.ensures refl refl

pub returns-then-is_full : goal.returns-then-is_full
returns-then-is_full c bits old =
    past_octet _ _ bits c.args.bit old c.if-self-lt7.false
    (eqb-true _ _ (sym c.is_full.ensures.value ∙ c.if-is_full.true)) refl c.shifted-self.ensures refl refl

pub returns : goal.returns
returns c bits old =
    let full : nat_eq (length c.args.self.now.whole.items) 302 ≡ false = sym c.is_full.ensures.value ∙ c.if-is_full.false in
    let room : length c.args.self.now.whole.items < 302 = omega (arith, eqb-false _ _ full) in
    one_octet _ _ bits c.args.bit old c.if-self-lt7.false room refl c.shifted-self.ensures c.push.ensures.items refl
