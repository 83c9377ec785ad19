use Rattle.std.proofs.Common.{ℕ, ◌*◌, ◌/◌, ◌%◌, arith, bit_and, bit_or, nat_eq, refl, true}
use Rattle.std.proofs.lemmas.Bool.{agree_below_at, eqb-true}
use Rattle.std.specs.Int.{reverse_bits_onto}
use Rattle.raster.specs.Words.{turned_octet}
use Rattle.page_code.proofs.turned.turned.Goals as goal

-- the octet with its halves exchanged, and in these the pairs
abbrev pairs_of : ℕ → ℕ
pairs_of octet = bit_or (bit_and (bit_or (octet / 16) (octet * 16 % 256) / 4) 51) (bit_and (bit_or (octet / 16) (octet * 16 % 256)) 51 *
    4 % 256)

-- and in these the bits
abbrev bits_of_pairs : ℕ → ℕ
bits_of_pairs octet = bit_or (bit_and (pairs_of octet / 2) 85) (bit_and (pairs_of octet) 85 * 2 % 256)

pub returns-clause-turned : goal.returns-clause-turned
unfolding reverse_bits_onto
returns-clause-turned c = eqb-true (bits_of_pairs c.args.octet) (turned_octet c.args.octet) (agree_below_at
    (λ n. nat_eq (bits_of_pairs n) (turned_octet n)) (λ n. true) 256 c.args.octet refl (omega arith))

pub returns-clause-back : goal.returns-clause-back
unfolding reverse_bits_onto
returns-clause-back c = eqb-true (turned_octet (bits_of_pairs c.args.octet)) c.args.octet (agree_below_at
    (λ n. nat_eq (turned_octet (bits_of_pairs n)) n) (λ n. true) 256 c.args.octet refl (omega arith))
