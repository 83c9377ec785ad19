use Rattle.std.proofs.Common.{◌≡◌, ◌+◌, ◌*◌, ◌/◌, ◌%◌, ◌<◌, ℕ, List, ap, ◌∙◌, get_or, bit_xor, arith}
use lib.Bits.{xor_lt}
use Rattle.hdlc.proofs.CheckOctets.{after_zeros, entry_at, eight_by_table, take_eight}
use Rattle.hdlc.proofs.check_sequence.crc_eight.Goals as goal

pub returns : goal.returns
returns c =
    let octets : List ℕ = c.args.octets.now in
    let at : ℕ = c.args.at in
    let o : ℕ → ℕ = λ k. get_or octets k 0 in
    let small : (k : ℕ) → o k < 256 = λ k. omega (arith, c.type_inv.octets k) in
    let both : ℕ = bit_xor c.args.register (o (at + 1) * 256 + o at) in
    let fits : both < 65536 = xor_lt 16 c.args.register (o (at + 1) * 256 + o at) (omega arith) (omega (arith, small at, small (at + 1))) in
    let entry : (k x place : ℕ) → x < 256 → k < 8 → place ≡ 256 * k + x → get_or c.remainders-table.result.now place 0 ≡ after_zeros k x =
    λ k x place h few is. ap (λ t. get_or t place 0) c.remainders-table.ensures ∙ entry_at k x place 0 h few is in
    let e0 = entry 0 (o (at + 7)) (o (at + 7)) (small (at + 7)) (omega arith) (omega arith) in
    let e1 = entry 1 (o (at + 6)) (256 + o (at + 6)) (small (at + 6)) (omega arith) (omega arith) in
    let e2 = entry 2 (o (at + 5)) (512 + o (at + 5)) (small (at + 5)) (omega arith) (omega arith) in
    let e3 = entry 3 (o (at + 4)) (768 + o (at + 4)) (small (at + 4)) (omega arith) (omega arith) in
    let e4 = entry 4 (o (at + 3)) (1024 + o (at + 3)) (small (at + 3)) (omega arith) (omega arith) in
    let e5 = entry 5 (o (at + 2)) (1280 + o (at + 2)) (small (at + 2)) (omega arith) (omega arith) in
    let e6 = entry 6 (both / 256) (1536 + both / 256) (omega arith) (omega arith) (omega arith) in
    let e7 = entry 7 (both % 256) (1792 + both % 256) (omega arith) (omega arith) (omega arith) in
    rw (c.from.ensures, c.from-2.ensures, e0, e1, e2, e3, e4, e5, e6, e7, take_eight octets at c.requires)
    (eight_by_table c.args.register (o at) (o (at + 1)) (o (at + 2)) (o (at + 3)) (o (at + 4)) (o (at + 5)) (o (at + 6)) (o (at + 7))
    (omega arith) (
      small at,
      (
        small (at + 1),
        (
          small (at + 2),
          (
            small (at + 3),
            (
              small (at + 4),
              (
                small (at + 5),
                (
                  small (at + 6),
                  (small (at + 7), tt),
                ),
              ),
            ),
          ),
        ),
      ),
    ))
