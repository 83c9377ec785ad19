use Rattle.std.proofs.Common.{◌≡◌, ◌≤◌, ◌+◌, ◌++◌, length, ap, sym, ◌∙◌, subst, true, false}
use Rattle.std.specs.Result.{is_ok}
use Rattle.hdlc.specs.Gathers.{Keeps}
use Rattle.hdlc.proofs.GatheringLemmas.{four_room, word_parts, joined_word, Word, on_ok, on_err}
use Rattle.hdlc.proofs.octet_buffer.OctetBuffer.push_four.Goals as goal

pub returns-then-is_ok : goal.returns-then-is_ok
returns-then-is_ok c front word size is old =
    let fine : is_ok c.try_extend_from_slice.result ≡ true = sym c.is_ok.ensures.value ∙ c.if-is_ok.true in
    let room : length c.args.self.now.whole.items + 4 ≤ 302 =
    c.try_extend_from_slice.ensures.variant.0 fine in
    subst (λ xs. Keeps xs c.args.self.now.long (front ++ word))
    (sym (on_ok c.try_extend_from_slice.result fine c.try_extend_from_slice.ensures.ok))
    (four_room c.args.self.now.whole.items c.args.self.now.long front word c.args.bits old size is room)

pub returns : goal.returns
returns c front word size is old =
    let full : is_ok c.try_extend_from_slice.result ≡ false = sym c.is_ok.ensures.value ∙ c.if-is_ok.false in
    let same = on_err c.try_extend_from_slice.result full c.try_extend_from_slice.ensures.err in
    let parts : Word word c.args.bits = word_parts word c.args.bits size is in
    let start = subst (λ v. Keeps v.items c.args.self.now.long front) (sym same) old in
    let one = c.push_octet.ensures front parts.a parts.sizes.0 parts.numbers.0 start in
    let two = c.push_octet-2.ensures (front ++ parts.a) parts.b parts.sizes.1 parts.numbers.1 one in
    let three = c.push_octet-3.ensures ((front ++ parts.a) ++ parts.b) parts.c parts.sizes.2 parts.numbers.2 two in
    let four = c.push_octet-4.ensures (((front ++ parts.a) ++ parts.b) ++ parts.c) parts.d parts.sizes.3 parts.numbers.3 three in
    subst (Keeps c.push_octet-4.new.self.whole.items c.push_octet-4.new.self.long)
    (joined_word front parts.a parts.b parts.c parts.d ∙ ap (λ w. front ++ w) (sym parts.is)) four
