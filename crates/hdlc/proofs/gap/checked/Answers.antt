use Rattle.std.proofs.Common.{◌≡◌, ◌-◌, ◌+◌, ◌<◌, ℕ, ◌∙◌, take, drop, length, arith, get_or}
use Rattle.std.proofs.lemmas.List.{get_or-drop, length-drop}
use Rattle.hdlc.proofs.Division.{checks_number}
use Rattle.hdlc.proofs.gap.checked.Goals as goal

pub returns : goal.returns
returns c =
    let n : ℕ = length c.args.octets.now - 2 in
    let size : length (drop n c.args.octets.now) ≡ 2 = length-drop n c.args.octets.now ∙ omega arith in
    let small : (k : ℕ) → get_or (drop n c.args.octets.now) k 0 < 256 = λ k. rw get_or-drop (omega (arith, c.type_inv.octets (n + k))) in
    rw (c.read_u16.ensures, c.fcs.ensures, c.split_at.ensures.front, c.split_at.ensures.back)
    (checks_number (drop n c.args.octets.now) (take n c.args.octets.now) size small)
