-- Eight bits at once into the register of the check sequence, by a table.
use Rattle.std.proofs.Common.{◌≡◌, ℕ, zero, suc, ◌+◌, ◌*◌, ◌/◌, ◌%◌, ◌^◌, ◌<◌, ◌≤◌, Bool, true, false, List, [], ◌∷◌, ◌++◌, length, take, drop, cond, get_or}
use Rattle.std.proofs.Common.{refl, ap, sym, ◌∙◌, arith, nat_eq, bit_xor, pow-suc, replicate, inl, inr, mod-lt}
use Rattle.std.specs.List.{fold}
use Rattle.std.proofs.lemmas.List.{take_more, drop-drop}
use Rattle.std.proofs.lemmas.Bool.{cases_eq, eq-eqb, ne_eqb}
use Rattle.std.proofs.lemmas.List.Sums.{fold-append}
use Rattle.std.proofs.lemmas.List.FromFn.{get_or-map-range_with_len}
use lib.Bits.{xor_lt, xor_mod, xor_shr, xor_zero_r, xor_assoc, xor_comm, xor_shifted}
use Rattle.raster.specs.Packed.{bits_of}
use Rattle.raster.specs.declared.packed.Order.TheVariants.{LsbFirst}
use Rattle.raster.specs.Octets.{number, AreOctets}
use Rattle.raster.proofs.OctetBits.{octet_bits}
use Rattle.raster.proofs.OctetLemmas.{bits_of-append, number-octet_bits}
use Rattle.hdlc.specs.Fcs.{xor}
use Rattle.hdlc.proofs.BitPlaces.{bits_of-one}
use Rattle.hdlc.specs.Register.{crc_bit, crc_octet, remainder_of, remainders}
use Rattle.std.proofs.lemmas.Nat.{div-add-mod', pow_pos}
use Rattle.raster.proofs.PackedLemmas.{length-bits_in}
use Rattle.hdlc.proofs.QuietRuns.{number_octets, take_seven, take_next}
use Rattle.std.proofs.Math.Seq.{take-add}

halves : (x m c : ℕ) → c < 2 → bit_xor x (c + 2 * m) / 2 ≡ bit_xor (x / 2) m
halves x m c h =
    let n : (c + 2 * m) / 2 ≡ m = omega arith in
    xor_shr x (c + 2 * m) 1 ∙ ap (bit_xor (x / 2)) n

lasts : (x m c : ℕ) → c < 2 → bit_xor x (c + 2 * m) % 2 ≡ bit_xor (x % 2) c
lasts x m c h =
    let n : (c + 2 * m) % 2 ≡ c = omega arith in
    xor_mod x (c + 2 * m) 1 ∙ ap (bit_xor (x % 2)) n

-- what is added past the first bit is left out of the step
step_apart : (t : Bool) (x m : ℕ) → cond t (bit_xor (bit_xor x m) 0x8408) (bit_xor x m) ≡ bit_xor (cond t (bit_xor x 0x8408) x) m
step_apart true x m = xor_assoc x m 0x8408 ∙ (ap (bit_xor x) (xor_comm m 0x8408) ∙ sym (xor_assoc x 0x8408 m))
step_apart false x m = refl

-- a bit may as well be added to the register first
first_bit : (x m : ℕ) (b : Bool) → crc_bit (bit_xor x (cond b 1 0 + 2 * m)) false ≡ bit_xor (crc_bit x b) m
first_bit x m b = go b
  where
    test : (n : ℕ) → n < 2 → nat_eq (bit_xor n 1) 1 ≡ xor true (nat_eq n 1)
    test zero h = refl
    test (suc zero) h = refl
    test (suc (suc n)) h = absurd (omega arith)

    go : (b : Bool) → crc_bit (bit_xor x (cond b 1 0 + 2 * m)) false ≡ bit_xor (crc_bit x b) m
    go true =
        rw (halves x m 1 (omega arith), lasts x m 1 (omega arith), test (x % 2) (omega arith)) (step_apart (xor true (nat_eq (x % 2) 1)) (x
        / 2) m)
    go false =
        rw (halves x m 0 (omega arith), lasts x m 0 (omega arith), xor_zero_r (x % 2)) (step_apart (nat_eq (x % 2) 1) (x / 2) m)

-- bits may as well be added to the register first
bits_first : (bits : List Bool) (x : ℕ) → fold crc_bit x bits ≡ fold crc_bit (bit_xor x (number bits)) (replicate (length bits) false)
bits_first [] x = sym (xor_zero_r x)
bits_first (b ∷ bits) x =
    bits_first bits (crc_bit x b) ∙ ap (λ r. fold crc_bit r (replicate (length bits) false)) (sym (first_bit x (number bits) b))

-- bits that no step reaches are only moved
unreached : (n x h : ℕ) → fold crc_bit (bit_xor x (h * 2 ^ n)) (replicate n false) ≡ bit_xor (fold crc_bit x (replicate n false)) h
unreached zero x h = ap (bit_xor x) (omega arith)
unreached (suc n) x h =
    let twice : h * 2 ^ suc n ≡ 0 + 2 * (h * 2 ^ n) = rw pow-suc (omega arith) in
    ap (λ m. fold crc_bit (crc_bit (bit_xor x m) false) (replicate n false)) twice
    ∙ (ap (λ r. fold crc_bit r (replicate n false)) (first_bit x (h * 2 ^ n) false) ∙ unreached n (crc_bit x false) h)

-- the entry of an octet, after eight 0 bits and after more
pub entry_at : (k x place d : ℕ) → x < 256 → k < 8 → place ≡ 256 * k + x
    → get_or remainders place d ≡ fold crc_bit x (replicate (8 * k + 8) false)
entry_at k x place d small few is =
    let row : place / 256 ≡ k = omega arith in
    let column : place % 256 ≡ x = omega arith in
    get_or-map-range_with_len (λ p. fold crc_bit (p % 256) (replicate (8 * (p / 256) + 8) false)) 0 2048 place place d (omega arith)
    (omega arith)
    ∙ (ap (λ r. fold crc_bit (place % 256) (replicate (8 * r + 8) false)) row
    ∙ ap (λ o. fold crc_bit o (replicate (8 * k + 8) false)) column)

pub entry_is : (x d : ℕ) → x < 256 → get_or remainders x d ≡ remainder_of x
entry_is x d h = entry_at 0 x x d h (omega arith) (omega arith)

-- an octet with the low octet of the register has an entry, and the high one is moved
pub by_table : (register octet : ℕ) → octet < 256
    → bit_xor (register / 256) (remainder_of (bit_xor (register % 256) octet)) ≡ crc_octet register octet
by_table register octet small =
    let split : bit_xor (register / 256 * 2 ^ 8) (register % 256) ≡ register =
    xor_shifted (register / 256) 8 (register % 256) (omega arith) ∙ omega arith in
    let bits : bits_of LsbFirst (octet ∷ []) ≡ octet_bits octet = bits_of-one octet in
    let order : bit_xor register octet ≡ bit_xor (bit_xor (register % 256) octet) (register / 256 * 2 ^ 8) =
    ap (λ r. bit_xor r octet) (sym split ∙ xor_comm (register / 256 * 2 ^ 8) (register % 256)) ∙
    (xor_assoc (register % 256) (register / 256 * 2 ^ 8) octet ∙
    (ap (bit_xor (register % 256)) (xor_comm (register / 256 * 2 ^ 8) octet) ∙
    sym (xor_assoc (register % 256) octet (register / 256 * 2 ^ 8)))) in
    sym (ap (fold crc_bit register) bits ∙ (bits_first (octet_bits octet) register
    ∙ (ap (λ n. fold crc_bit (bit_xor register n) (replicate 8 false)) (number-octet_bits octet small)
    ∙ (ap (λ r. fold crc_bit r (replicate 8 false)) order
    ∙ (unreached 8 (bit_xor (register % 256) octet) (register / 256)
    ∙ xor_comm (remainder_of (bit_xor (register % 256) octet)) (register / 256))))))

-- ---- eight octets at once

odd : (x : ℕ) → (x ≡ cond (nat_eq (x % 2) 1) 1 0 + 2 * (x / 2))
odd x = elim (cases_eq (x % 2) 1) [
  | inl e ↦ rw (eq-eqb (x % 2) 1 e) (omega arith)
  | inr ne ↦ rw (ne_eqb (x % 2) 1 ne) (omega arith)
]

-- a bit added to a register's first changes the step by the generator
other_bit : (x : ℕ) (b : Bool) → crc_bit x b ≡ bit_xor (crc_bit x false) (cond b 0x8408 0)
other_bit x false = sym (xor_zero_r (crc_bit x false))
other_bit x true = go (nat_eq (x % 2) 1)
  where
    go : (t : Bool) → cond (xor true t) (bit_xor (x / 2) 0x8408) (x / 2) ≡ bit_xor (cond t (bit_xor (x / 2) 0x8408) (x / 2)) 0x8408
    go true = sym (xor_assoc (x / 2) 0x8408 0x8408 ∙ xor_zero_r (x / 2))
    go false = refl

step_is : (y : ℕ) → bit_xor (cond (nat_eq (y % 2) 1) 0x8408 0) (y / 2) ≡ crc_bit y false
step_is y = go (nat_eq (y % 2) 1)
  where
    go : (t : Bool) → bit_xor (cond t 0x8408 0) (y / 2) ≡ cond t (bit_xor (y / 2) 0x8408) (y / 2)
    go true = xor_comm 0x8408 (y / 2)
    go false = xor_comm 0 (y / 2) ∙ xor_zero_r (y / 2)

-- the step of a sum is the sum of the steps
step_sum : (x y : ℕ) → crc_bit (bit_xor x y) false ≡ bit_xor (crc_bit x false) (crc_bit y false)
step_sum x y =
    let b : Bool = nat_eq (y % 2) 1 in
    ap (λ n. crc_bit (bit_xor x n) false) (odd y) ∙ (first_bit x (y / 2) b
    ∙ (ap (λ r. bit_xor r (y / 2)) (other_bit x b)
    ∙ (xor_assoc (crc_bit x false) (cond b 0x8408 0) (y / 2) ∙ ap (bit_xor (crc_bit x false)) (step_is y))))

sum_apart : (n x y : ℕ) → fold crc_bit (bit_xor x y) (replicate n false)
    ≡ bit_xor (fold crc_bit x (replicate n false)) (fold crc_bit y (replicate n false))
sum_apart zero x y = refl
sum_apart (suc n) x y =
    ap (λ r. fold crc_bit r (replicate n false)) (step_sum x y) ∙ sum_apart n (crc_bit x false) (crc_bit y false)

-- the low bits of a register take part in all steps, the others only in the last ones
low_apart : (k n x : ℕ) → fold crc_bit x (replicate k false ++ replicate n false)
    ≡ bit_xor (fold crc_bit (x % 2 ^ k) (replicate k false ++ replicate n false)) (fold crc_bit (x / 2 ^ k) (replicate n false))
low_apart k n x =
    let low : ℕ = x % 2 ^ k in
    let high : ℕ = x / 2 ^ k in
    let split : x ≡ bit_xor low (high * 2 ^ k) =
    sym (xor_comm low (high * 2 ^ k) ∙ (xor_shifted high k low (mod-lt x (pow_pos k)) ∙ div-add-mod' x (2 ^ k))) in
    let on : ℕ → ℕ = λ r. fold crc_bit r (replicate n false) in
    fold-append crc_bit x (replicate k false) (replicate n false)
    ∙ (ap on (ap (λ y. fold crc_bit y (replicate k false)) split ∙ unreached k low high)
    ∙ (sum_apart n (fold crc_bit low (replicate k false)) high
    ∙ ap (λ r. bit_xor r (on high)) (sym (fold-append crc_bit low (replicate k false) (replicate n false)))))

-- the low octet of a register apart
octet_apart : (n m a r : ℕ) → replicate 8 false ++ replicate n false ≡ replicate m false → a < 256
    → fold crc_bit (a + 256 * r) (replicate m false) ≡ bit_xor (fold crc_bit a (replicate m false)) (fold crc_bit r (replicate n false))
octet_apart n m a r e small =
    let low : (a + 256 * r) % 256 ≡ a = omega arith in
    let high : (a + 256 * r) / 256 ≡ r = omega arith in
    ap (fold crc_bit (a + 256 * r)) (sym e) ∙ (low_apart 8 n (a + 256 * r)
    ∙ (ap (λ x. bit_xor (fold crc_bit x (replicate 8 false ++ replicate n false)) (fold crc_bit ((a + 256 * r) / 256) (replicate n false)))
    low
    ∙ (ap (λ x. bit_xor (fold crc_bit a (replicate 8 false ++ replicate n false)) (fold crc_bit x (replicate n false))) high
    ∙ ap (λ zs. bit_xor (fold crc_bit a zs) (fold crc_bit r (replicate n false))) e)))

-- a register after `8 * k + 8` 0 bits more
abbrev pub after_zeros : ℕ → ℕ → ℕ
after_zeros k x = fold crc_bit x (replicate (8 * k + 8) false)

-- the register with the first two of the octets that come
both_low : (register a b r : ℕ) → register < 65536 → a < 256 → b < 256
    → bit_xor register (a + 256 * (b + 256 * r)) ≡ bit_xor register (b * 256 + a) + 65536 * r
both_low register a b r small la lb =
    let word : ℕ = a + 256 * (b + 256 * r) in
    let top : word / 65536 ≡ r = omega arith in
    let bottom : word % 65536 ≡ b * 256 + a = omega arith in
    let none : register / 65536 ≡ 0 = omega arith in
    let whole : register % 65536 ≡ register = omega arith in
    let low : bit_xor register word % 65536 ≡ bit_xor register (b * 256 + a) =
    xor_mod register word 16 ∙ (ap (λ n. bit_xor n (word % 65536)) whole ∙ ap (bit_xor register) bottom) in
    let high : bit_xor register word / 65536 ≡ r =
    xor_shr register word 16 ∙ (ap (λ n. bit_xor n (word / 65536)) none ∙ (ap (bit_xor 0) top ∙ (xor_comm 0 r ∙ xor_zero_r r))) in
    omega arith

-- seven sums in another order
turned : (a b c d e f g h : ℕ) → bit_xor (bit_xor (bit_xor (bit_xor (bit_xor (bit_xor (bit_xor h g) f) e) d) c) b) a
    ≡ bit_xor a (bit_xor b (bit_xor c (bit_xor d (bit_xor e (bit_xor f (bit_xor g h))))))
turned a b c d e f g h =
    xor_comm (bit_xor (bit_xor (bit_xor (bit_xor (bit_xor (bit_xor h g) f) e) d) c) b) a ∙ ap (bit_xor a)
    (xor_comm (bit_xor (bit_xor (bit_xor (bit_xor (bit_xor h g) f) e) d) c) b ∙ ap (bit_xor b)
    (xor_comm (bit_xor (bit_xor (bit_xor (bit_xor h g) f) e) d) c ∙ ap (bit_xor c)
    (xor_comm (bit_xor (bit_xor (bit_xor h g) f) e) d ∙ ap (bit_xor d)
    (xor_comm (bit_xor (bit_xor h g) f) e ∙ ap (bit_xor e)
    (xor_comm (bit_xor h g) f ∙ ap (bit_xor f) (xor_comm h g))))))

-- eight octets with the register have entries
pub eight_by_table : (register a b c d e f g h : ℕ) → register < 65536 → AreOctets (a ∷ b ∷ c ∷ d ∷ e ∷ f ∷ g ∷ h ∷ [])
    → bit_xor (bit_xor (bit_xor (bit_xor (bit_xor (bit_xor (bit_xor (after_zeros 0 h) (after_zeros 1 g)) (after_zeros 2 f))
    (after_zeros 3 e)) (after_zeros 4 d)) (after_zeros 5 c)) (after_zeros 6 (bit_xor register (b * 256 + a) / 256)))
    (after_zeros 7 (bit_xor register (b * 256 + a) % 256))
    ≡ fold crc_bit register (bits_of LsbFirst (a ∷ b ∷ c ∷ d ∷ e ∷ f ∷ g ∷ h ∷ []))
eight_by_table register a b c d e f g h small fit =
    let la : a < 256 = fit.0 in
    let lb : b < 256 = fit.1.0 in
    let lc : c < 256 = fit.1.1.0 in
    let ld : d < 256 = fit.1.1.1.0 in
    let le : e < 256 = fit.1.1.1.1.0 in
    let lf : f < 256 = fit.1.1.1.1.1.0 in
    let lg : g < 256 = fit.1.1.1.1.1.1.0 in
    let lh : h < 256 = fit.1.1.1.1.1.1.1.0 in
    let octets : List ℕ = a ∷ b ∷ c ∷ d ∷ e ∷ f ∷ g ∷ h ∷ [] in
    let bits : List Bool = bits_of LsbFirst octets in
    let size : length bits ≡ 64 = length-bits_in LsbFirst octets 64 in
    let both : ℕ = bit_xor register (b * 256 + a) in
    let fits : both < 65536 = xor_lt 16 register (b * 256 + a) small (omega arith) in
    let r6 : ℕ = g + 256 * h in
    let r5 : ℕ = f + 256 * r6 in
    let r4 : ℕ = e + 256 * r5 in
    let r3 : ℕ = d + 256 * r4 in
    let r2 : ℕ = c + 256 * r3 in
    let n1 : number (bits_of LsbFirst (h ∷ [])) ≡ h = ap number (bits_of-one h) ∙ number-octet_bits h lh in
    let n2 = number_octets g (h ∷ []) lg ∙ ap (λ m. g + 256 * m) n1 in
    let n3 = number_octets f (g ∷ h ∷ []) lf ∙ ap (λ m. f + 256 * m) n2 in
    let n4 = number_octets e (f ∷ g ∷ h ∷ []) le ∙ ap (λ m. e + 256 * m) n3 in
    let n5 = number_octets d (e ∷ f ∷ g ∷ h ∷ []) ld ∙ ap (λ m. d + 256 * m) n4 in
    let n6 = number_octets c (d ∷ e ∷ f ∷ g ∷ h ∷ []) lc ∙ ap (λ m. c + 256 * m) n5 in
    let n7 = number_octets b (c ∷ d ∷ e ∷ f ∷ g ∷ h ∷ []) lb ∙ ap (λ m. b + 256 * m) n6 in
    let n8 : number bits ≡ a + 256 * (b + 256 * r2) =
    number_octets a (b ∷ c ∷ d ∷ e ∷ f ∷ g ∷ h ∷ []) la ∙ ap (λ m. a + 256 * m) n7 in
    let parts : both + 65536 * r2 ≡ both % 256 + 256 * (both / 256 + 256 * r2) = omega arith in
    turned (after_zeros 7 (both % 256)) (after_zeros 6 (both / 256)) (after_zeros 5 c) (after_zeros 4 d) (after_zeros 3 e) (after_zeros 2 f)
    (after_zeros 1 g) (after_zeros 0 h)
    ∙ sym (bits_first bits register
    ∙ (ap (λ n. fold crc_bit (bit_xor register (number bits)) (replicate n false)) size
    ∙ (ap (after_zeros 7) (ap (bit_xor register) n8 ∙ (both_low register a b r2 small la lb ∙ parts))
    ∙ (octet_apart 56 64 (both % 256) (both / 256 + 256 * r2) refl (omega arith) ∙ ap (bit_xor (after_zeros 7 (both % 256)))
    (octet_apart 48 56 (both / 256) r2 refl (omega arith) ∙ ap (bit_xor (after_zeros 6 (both / 256)))
    (octet_apart 40 48 c r3 refl lc ∙ ap (bit_xor (after_zeros 5 c))
    (octet_apart 32 40 d r4 refl ld ∙ ap (bit_xor (after_zeros 4 d))
    (octet_apart 24 32 e r5 refl le ∙ ap (bit_xor (after_zeros 3 e))
    (octet_apart 16 24 f r6 refl lf ∙ ap (bit_xor (after_zeros 2 f)) (octet_apart 8 16 g h refl lg))))))))))

pub take_eight : (os : List ℕ) (at : ℕ) → at + 8 ≤ length os → take 8 (drop at os)
    ≡ get_or os at 0 ∷ get_or os (at + 1) 0 ∷ get_or os (at + 2) 0 ∷ get_or os (at + 3) 0 ∷ get_or os (at + 4) 0 ∷ get_or os (at + 5) 0
    ∷ get_or os (at + 6) 0 ∷ get_or os (at + 7) 0 ∷ []
take_eight os at h =
    take-add 7 1 (drop at os) ∙ (ap (λ xs. xs ++ take 1 (drop 7 (drop at os))) (take_seven os at h)
    ∙ ap (λ xs. get_or os at 0 ∷ get_or os (at + 1) 0 ∷ get_or os (at + 2) 0 ∷ get_or os (at + 3) 0 ∷ get_or os (at + 4) 0
    ∷ get_or os (at + 5) 0 ∷ get_or os (at + 6) 0 ∷ xs) (ap (take 1) (drop-drop 7 at os)
    ∙ take_next os (at + 7) (at + 8) 0 (omega arith) (omega arith)))

-- one octet on
pub register_on : (octets : List ℕ) (i d start register : ℕ) → i < length octets
    → register ≡ fold crc_bit start (bits_of LsbFirst (take i octets))
    → crc_octet register (get_or octets i d) ≡ fold crc_bit start (bits_of LsbFirst (take (i + 1) octets))
register_on octets i d start register h is =
    let octet : ℕ = get_or octets i d in
    ap (λ r. crc_octet r octet) is
    ∙ (sym (fold-append crc_bit start (bits_of LsbFirst (take i octets)) (bits_of LsbFirst (octet ∷ [])))
    ∙ (ap (fold crc_bit start) (sym (bits_of-append LsbFirst (take i octets) (octet ∷ [])) ∙ ap (bits_of LsbFirst) (sym (take_more octets i
    d h)))))

-- octets after others
pub register_after : (front back : List ℕ) (start register : ℕ) → register ≡ fold crc_bit start (bits_of LsbFirst front)
    → fold crc_bit register (bits_of LsbFirst back) ≡ fold crc_bit start (bits_of LsbFirst (front ++ back))
register_after front back start register is =
    ap (λ r. fold crc_bit r (bits_of LsbFirst back)) is
    ∙ (sym (fold-append crc_bit start (bits_of LsbFirst front) (bits_of LsbFirst back))
    ∙ ap (fold crc_bit start) (sym (bits_of-append LsbFirst front back)))
