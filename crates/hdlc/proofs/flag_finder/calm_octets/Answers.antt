use Rattle.std.proofs.Common.{◌≡◌, ◌+◌, ◌*◌, ◌/◌, ◌<◌, ◌≤◌, ℕ, List, true, bit_and, length, drop, take, get_or, ap, refl, sym}
use Rattle.std.proofs.Common.{◌∙◌, arith, w64}
use Rattle.std.specs.Int.{bit_at}
use Rattle.std.proofs.lemmas.List.{take-take}
use Rattle.std.proofs.lemmas.Nat.{and_le_l}
use Rattle.std.proofs.lemmas.Nat.Bits.{bit_at-zero, bit_at-trailing_zeros}
use Rattle.hdlc.specs.EightBits.{end_no_flag}
use Rattle.hdlc.proofs.CheckOctets.{take_eight}
use Rattle.hdlc.proofs.QuietOctets.{sixes}
use Rattle.hdlc.proofs.QuietRuns.{take_next, calm_front, number_seven}
use Rattle.hdlc.proofs.flag_finder.calm_octets.Goals as goal

-- those before six 1 bits in a row have ended
front : (octets : List ℕ) (at n k : ℕ) → ((i : ℕ) → get_or octets i 0 < 256) → at + 8 ≤ length octets → k ≤ 7
    → n ≡ get_or octets at 0 + 256 * (get_or octets (at + 1) 0 + 256 * (get_or octets (at + 2) 0 + 256 * (get_or octets (at + 3) 0
    + 256 * (get_or octets (at + 4) 0 + 256 * (get_or octets (at + 5) 0 + 256 * (get_or octets (at + 6) 0
    + 256 * get_or octets (at + 7) 0))))))
    → ((i : ℕ) → i < 8 * k → bit_at (sixes n) (i + 2) ≡ 0) → end_no_flag (get_or octets at 0) (take k (drop (at + 1) octets)) ≡ true
front octets at n k small room most is none =
    let o : ℕ → ℕ = λ i. get_or octets i 0 in
    let seven = ap (drop 1) (sym (take_next octets at (at + 1) 7 (omega arith) refl) ∙ take_eight octets at room) in
    let value = number_seven (o (at + 1)) (o (at + 2)) (o (at + 3)) (o (at + 4)) (o (at + 5)) (o (at + 6)) (o (at + 7)) (small (at + 1))
    (small (at + 2)) (small (at + 3)) (small (at + 4)) (small (at + 5)) (small (at + 6)) (small (at + 7)) in
    ap (end_no_flag (o at)) (sym (take-take k 7 (drop (at + 1) octets) most) ∙ ap (take k) seven)
    ∙ calm_front (o at) n k _ (small at) (
      small (at + 1),
      (
        small (at + 2),
        (
          small (at + 3),
          (
            small (at + 4),
            (
              small (at + 5),
              (
                small (at + 6),
                (small (at + 7), tt),
              ),
            ),
          ),
        ),
      ),
    ) (is ∙ ap (λ m. o at + 256 * m) (sym value)) none

pub returns-then-sixes-eq0-clause-quiet : goal.returns-then-sixes-eq0-clause-quiet
returns-then-sixes-eq0-clause-quiet c =
    let small : (k : ℕ) → get_or c.args.octets.now k 0 < 256 = λ k. omega (arith, c.type_inv.octets k) in
    front c.args.octets.now c.args.at c.from_le_bytes-all.result 7 small c.requires (omega arith) (c.from_le_bytes-all.ensures ∙ omega arith)
    (λ i less. ap (λ n. bit_at n (i + 2)) c.if-sixes-eq0.true ∙ bit_at-zero (i + 2))

pub returns-clause-quiet : goal.returns-clause-quiet
returns-clause-quiet c =
    let small : (k : ℕ) → get_or c.args.octets.now k 0 < 256 = λ k. omega (arith, c.type_inv.octets k) in
    let x : ℕ = c.from_le_bytes-all.result in
    let pairs : ℕ = bit_and x (x / 2) in
    let fours : ℕ = bit_and pairs (pairs / 4) in
    let most : sixes x < 18446744073709551616 =
    omega (arith, and_le_l fours (pairs / 16), and_le_l pairs (pairs / 4), and_le_l x (x / 2)) in
    let first = bit_at-trailing_zeros w64 (sixes x) (omega (arith, c.if-sixes-eq0.false)) most in
    front c.args.octets.now c.args.at x (c.saturating_sub.result / 8) small c.requires (omega (arith, c.saturating_sub.ensures, first.0))
    (c.from_le_bytes-all.ensures ∙ omega arith) (λ i less. first.2 (i + 2) (omega (arith, c.saturating_sub.ensures)))
