use Rattle.std.proofs.Common.{◌≡◌, ◌+◌, ◌*◌, ◌<◌, ℕ, List, get_or, ap, ◌∙◌, arith}
use Rattle.std.proofs.lemmas.Bool.{eqb-true}
use Rattle.hdlc.proofs.GatheringLemmas.{take_four}
use Rattle.hdlc.proofs.FlagRuns.{four_same}
use Rattle.hdlc.proofs.flag_finder.are_four.Goals as goal

pub returns : goal.returns
returns c e =
    let octets : List ℕ = c.args.octets.now in
    let at : ℕ = c.args.at in
    let small : (k : ℕ) → get_or octets k 0 < 256 = λ k. omega (arith, c.type_inv.octets k) in
    let is : c.from_le_bytes-next.result ≡ c.args.octet * 0x1010101 = eqb-true _ _ e ∙ ap (λ n. n * 0x1010101) c.from.ensures in
    take_four octets at c.requires
    ∙ four_same _ _ _ _ c.args.octet c.from_le_bytes-next.result (small at) (small (at + 1)) (small (at + 2)) (small (at + 3)) (omega arith)
    (c.from_le_bytes-next.ensures ∙ omega arith) is
