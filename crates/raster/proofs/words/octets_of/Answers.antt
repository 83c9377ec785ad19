use Rattle.std.proofs.Common.{ℕ, zero, suc, ◌≡◌, ◌<◌, ◌∙◌, arith, refl, get_or}
use Rattle.std.specs.Int.{to_be_bytes, from_le_bytes, swap_bytes, w64}
use Rattle.std.proofs.lemmas.Nat.{le_bytes_8}
use Rattle.raster.proofs.words.octets_of.Goals as goal

-- the octets from the other end on are the same number
reversed : (n : ℕ) → swap_bytes w64 n ≡ from_le_bytes w64 (to_be_bytes w64 n)
reversed n = omega arith

-- each is an octet
below : (n i : ℕ) → get_or (to_be_bytes w64 n) i 0 < 256
below n zero = omega arith
below n (suc zero) = omega arith
below n (suc (suc zero)) = omega arith
below n (suc (suc (suc zero))) = omega arith
below n (suc (suc (suc (suc zero)))) = omega arith
below n (suc (suc (suc (suc (suc zero))))) = omega arith
below n (suc (suc (suc (suc (suc (suc zero)))))) = omega arith
below n (suc (suc (suc (suc (suc (suc (suc zero))))))) = omega arith
below n (suc (suc (suc (suc (suc (suc (suc (suc i)))))))) = omega arith

pub returns : goal.returns
returns c = c.to_le_bytes.ensures ∙ le_bytes_8 (to_be_bytes w64 c.args.word) c.swap_bytes.result refl (below c.args.word)
    (c.swap_bytes.ensures ∙ reversed c.args.word)
