-- Octets with no stuffed bits, four at a time.
use Rattle.std.proofs.Common.{◌≡◌, ℕ, zero, suc, ◌+◌, ◌-◌, ◌*◌, ◌/◌, ◌%◌, ◌^◌, ◌<◌, ◌≤◌, Bool, true, false, not, ◌&&◌, ◌||◌, List, [], ◌∷◌}
use Rattle.std.proofs.Common.{◌++◌, length, cond, min, refl, ap, sym, ◌∙◌, arith, nat_lt, bit_and}
use Rattle.std.proofs.Math.Pow.{pow_mono}
use Rattle.std.proofs.lemmas.Nat.{and_shr, and_le_r, mul-le, shr-shr}
use Rattle.std.proofs.lemmas.Nat.Bits.{bit_at_and}
use Rattle.std.proofs.lemmas.Bool.{and_parts, lt-ltb, ltb-true}
use Rattle.std.specs.Int.{bit_at}
use Rattle.raster.specs.Octets.{number}
use Rattle.raster.specs.Packed.{bits_of}
use Rattle.raster.specs.declared.packed.Order.TheVariants.{LsbFirst}
use Rattle.raster.proofs.OctetBits.{octet_bits}
use Rattle.raster.proofs.OctetLemmas.{bits_of-append, number-octet_bits}
use Rattle.raster.proofs.PackedLemmas.{length-bits_in}
use Rattle.hdlc.specs.declared.gathering.Gathering.{Gathering}
use Rattle.hdlc.specs.declared.octet_buffer.OctetBuffer.{OctetBuffer}
use Rattle.hdlc.specs.EightBits.{run_after, unstuffed_from, six_from, ones_at_end, plain, fives, four}
use Rattle.hdlc.specs.Gathers.{Gathers}
use Rattle.hdlc.proofs.BitPlaces.{bits_of-one}
use Rattle.hdlc.proofs.GatheringLemmas.{with_bits}
use Rattle.hdlc.proofs.QuietRuns.{number_octets}

-- ---- what plain bits are

pub less_if : (n : ℕ) → nat_lt n 5 ≡ true → n < 5
less_if n h = ltb-true n 5 h

pub plain_less : (n : ℕ) (bits : List Bool) → plain n bits ≡ true → n < 5
plain_less n [] h = less_if n h
plain_less n (b ∷ bits) h = less_if n (and_parts (nat_lt n 5) (plain (cond b (1 + n) 0) bits) h).0

plain_rest : (n : ℕ) (b : Bool) (bits : List Bool) → plain n (b ∷ bits) ≡ true → plain (cond b (1 + n) 0) bits ≡ true
plain_rest n b bits h = (and_parts (nat_lt n 5) (plain (cond b (1 + n) 0) bits) h).1

pub run_is : (n : ℕ) (b : Bool) → n < 5 → run_after n b ≡ cond b (1 + n) 0
run_is n true h = omega arith
run_is n false h = refl

pub plain_end : (bits : List Bool) (n : ℕ) → plain n bits ≡ true → ones_at_end n bits < 5
plain_end [] n h = less_if n h
plain_end (b ∷ bits) n h = plain_end bits (cond b (1 + n) 0) (plain_rest n b bits h)

pub plain_same : (bits : List Bool) (n : ℕ) → plain n bits ≡ true → unstuffed_from n bits ≡ bits
plain_same [] n h = refl
plain_same (b ∷ bits) n h =
    let few : n < 5 = plain_less n (b ∷ bits) h in
    ap (λ t. cond t (b ∷ []) [] ++ unstuffed_from (run_after n b) bits) (lt-ltb n 5 few)
    ∙ ap (λ xs. b ∷ xs) (ap (λ r. unstuffed_from r bits) (run_is n b few)
    ∙ plain_same bits (cond b (1 + n) 0) (plain_rest n b bits h))

pub plain_calm : (bits : List Bool) (n : ℕ) → plain n bits ≡ true → six_from n bits ≡ false
plain_calm [] n h = refl
plain_calm (b ∷ bits) n h =
    let few : n < 5 = plain_less n (b ∷ bits) h in
    ap (λ t. (not t && b) || six_from (run_after n b) bits) (lt-ltb n 5 few)
    ∙ (ap (λ r. six_from r bits) (run_is n b few) ∙ plain_calm bits (cond b (1 + n) 0) (plain_rest n b bits h))

-- ---- bits with a 0 end with as many 1 bits in a row, whatever came before them

end_most : (bits : List Bool) (n : ℕ) → ones_at_end n bits ≤ n + length bits
end_most [] n = omega arith
end_most (true ∷ bits) n = omega (arith, end_most bits (1 + n))
end_most (false ∷ bits) n = omega (arith, end_most bits 0)

end_more : (bits : List Bool) (m n : ℕ) → m ≤ n → ones_at_end m bits ≤ ones_at_end n bits
end_more [] m n h = h
end_more (true ∷ bits) m n h = end_more bits (1 + m) (1 + n) (omega arith)
end_more (false ∷ bits) m n h = omega arith

end_alone : (bits : List Bool) (n : ℕ) → ones_at_end n bits < n + length bits → ones_at_end n bits ≡ ones_at_end 0 bits
end_alone [] n h = absurd (omega arith)
end_alone (true ∷ bits) n h =
    let one : ones_at_end (1 + n) bits ≡ ones_at_end 0 bits = end_alone bits (1 + n) (omega arith) in
    let up : ones_at_end 1 bits ≤ ones_at_end (1 + n) bits = end_more bits 1 (1 + n) (omega arith) in
    one ∙ sym (end_alone bits 1 (omega (arith, end_most bits 0)))
end_alone (false ∷ bits) n h = refl

end-more : (xs ys : List Bool) (n : ℕ) → ones_at_end n (xs ++ ys) ≡ ones_at_end (ones_at_end n xs) ys
end-more [] ys n = refl
end-more (x ∷ xs) ys n = end-more xs ys (cond x (1 + n) 0)

pub end_of_four : (n a b c d : ℕ) → ones_at_end n (bits_of LsbFirst (a ∷ b ∷ c ∷ d ∷ [])) < 5
    → ones_at_end n (bits_of LsbFirst (a ∷ b ∷ c ∷ d ∷ [])) ≡ ones_at_end 0 (octet_bits d)
end_of_four n a b c d short =
    let front : List Bool = bits_of LsbFirst (a ∷ b ∷ c ∷ []) in
    let split : bits_of LsbFirst (a ∷ b ∷ c ∷ d ∷ []) ≡ front ++ octet_bits d =
    bits_of-append LsbFirst (a ∷ b ∷ c ∷ []) (d ∷ []) ∙ ap (λ r. front ++ r) (bits_of-one d) in
    let end : ones_at_end n (bits_of LsbFirst (a ∷ b ∷ c ∷ d ∷ [])) ≡ ones_at_end (ones_at_end n front) (octet_bits d) =
    ap (ones_at_end n) split ∙ end-more front (octet_bits d) n in
    let eight : length (octet_bits d) ≡ 8 = refl in
    end ∙ end_alone (octet_bits d) (ones_at_end n front) (omega arith)

-- ---- the test, by a number

pub fives_half : (x : ℕ) → fives (x / 2) ≡ fives x / 2
fives_half x =
    let pairs : ℕ = bit_and x (x / 2) in
    let half : bit_and (x / 2) (x / 2 / 2) ≡ pairs / 2 = sym (and_shr x (x / 2) 1) in
    let four : pairs / 2 / 4 ≡ pairs / 4 / 2 = omega arith in
    let sixteen : x / 2 / 16 ≡ x / 16 / 2 = omega arith in
    rw (half, four, sixteen) (ap (λ n. bit_and n (x / 16 / 2)) (sym (and_shr pairs (pairs / 4) 1))
    ∙ sym (and_shr (bit_and pairs (pairs / 4)) (x / 16) 1))

fives_down : (k x : ℕ) → fives x ≡ 0 → fives (x / 2 ^ k) ≡ 0
fives_down zero x h =
    let same : x / 1 ≡ x = omega arith in
    ap fives same ∙ h
fives_down (suc k) x h =
    let power : 1 + k ≡ suc k = omega arith in
    sym (ap fives (shr-shr x 1 k ∙ ap (λ n. x / 2 ^ n) power)) ∙ fives_down k (x / 2) (fives_half x ∙ ap (λ n. n / 2) h)

pub five_low : (x : ℕ) → x % 32 ≡ 31 → fives x % 2 ≡ 1
five_low x h =
    let pairs : ℕ = bit_and x (x / 2) in
    let p0 : bit_at pairs 0 ≡ 1 = bit_at_and x (x / 2) 0 ∙ (rw (bit x 0 (omega arith), bit (x / 2) 0 (omega arith)) refl) in
    let p2 : bit_at (pairs / 4) 0 ≡ 1 = ap (λ n. bit_at n 0) (and_shr x (x / 2) 2)
    ∙ (bit_at_and (x / 4) (x / 2 / 4) 0 ∙ (rw (bit (x / 4) 0 (omega arith), bit (x / 2 / 4) 0 (omega arith)) refl)) in
    let four : bit_at (bit_and pairs (pairs / 4)) 0 ≡ 1 = bit_at_and pairs (pairs / 4) 0 ∙ (rw (p0, p2) refl) in
    let five : bit_at (fives x) 0 ≡ 1 =
    bit_at_and (bit_and pairs (pairs / 4)) (x / 16) 0 ∙ (rw (four, bit (x / 16) 0 (omega arith)) refl) in
    omega arith
  where
    bit : (y k : ℕ) → y / 2 ^ k % 2 ≡ 1 → bit_at y k ≡ 1
    bit y k e = e

low_few : (m n : ℕ) → n ≤ 6 → fives ((m + 1) * 2 ^ n - 1) ≡ 0 → n < 5
low_few m zero h e = omega arith
low_few m (suc zero) h e = omega arith
low_few m (suc (suc zero)) h e = omega arith
low_few m (suc (suc (suc zero))) h e = omega arith
low_few m (suc (suc (suc (suc zero)))) h e = omega arith
low_few m (suc (suc (suc (suc (suc zero))))) h e =
    let five = five_low ((m + 1) * 32 - 1) (omega arith) in
    absurd (omega arith)
low_few m (suc (suc (suc (suc (suc (suc zero)))))) h e =
    let five = five_low ((m + 1) * 64 - 1) (omega arith) in
    absurd (omega arith)
low_few m (suc (suc (suc (suc (suc (suc (suc n))))))) h e = absurd (omega arith)

pub up : (m n : ℕ) → n < 5 → (1 + 2 * m + 1) * 2 ^ n - 1 ≡ (m + 1) * 2 ^ (1 + n) - 1
up m zero h = omega arith
up m (suc zero) h = omega arith
up m (suc (suc zero)) h = omega arith
up m (suc (suc (suc zero))) h = omega arith
up m (suc (suc (suc (suc zero)))) h = omega arith
up m (suc (suc (suc (suc (suc n))))) h = absurd (omega arith)

pub down : (m n : ℕ) → n < 5 → ((0 + 2 * m + 1) * 2 ^ n - 1) / 2 ^ (1 + n) ≡ (m + 1) * 2 ^ 0 - 1
down m zero h = omega arith
down m (suc zero) h = omega arith
down m (suc (suc zero)) h = omega arith
down m (suc (suc (suc zero))) h = omega arith
down m (suc (suc (suc (suc zero)))) h = omega arith
down m (suc (suc (suc (suc (suc n))))) h = absurd (omega arith)

pub plain_if : (bits : List Bool) (n : ℕ) → n ≤ 6 → fives ((number bits + 1) * 2 ^ n - 1) ≡ 0 → plain n bits ≡ true
plain_if [] n h e = lt-ltb n 5 (low_few 0 n h e)
plain_if (true ∷ bits) n h e =
    let few : n < 5 = low_few (1 + 2 * number bits) n h e in
    rw (lt-ltb n 5 few) (plain_if bits (1 + n) (omega arith) (sym (ap fives (up (number bits) n few)) ∙ e))
plain_if (false ∷ bits) n h e =
    let few : n < 5 = low_few (0 + 2 * number bits) n h e in
    rw (lt-ltb n 5 few) (plain_if bits 0 (omega arith)
    (sym (ap fives (down (number bits) n few)) ∙ fives_down (1 + n) ((0 + 2 * number bits + 1) * 2 ^ n - 1) e))

pub number_four : (a b c d : ℕ) → a < 256 → b < 256 → c < 256 → d < 256
    → number (bits_of LsbFirst (a ∷ b ∷ c ∷ d ∷ [])) ≡ a + 256 * (b + 256 * (c + 256 * d))
number_four a b c d la lb lc ld =
    number_octets a (b ∷ c ∷ d ∷ []) la ∙ ap (λ m. a + 256 * m)
    (number_octets b (c ∷ d ∷ []) lb ∙ ap (λ m. b + 256 * m)
    (number_octets c (d ∷ []) lc ∙ ap (λ m. c + 256 * m) (ap number (bits_of-one d) ∙ number-octet_bits d ld)))

pub number_word : (word : ℕ) → word < 4294967296 → number (bits_of LsbFirst (four word)) ≡ word
number_word word small =
    number_four (word % 256) (word / 256 % 256) (word / 65536 % 256) (word / 16777216) (omega arith) (omega arith) (omega arith) (omega arith)
    ∙ omega arith

pub four_of : (a b c d word : ℕ) → a < 256 → b < 256 → c < 256 → d < 256 → word ≡ a + 256 * (b + 256 * (c + 256 * d))
    → four word ≡ a ∷ b ∷ c ∷ d ∷ []
four_of a b c d word la lb lc ld value =
    let e1 : word % 256 ≡ a = omega arith in
    let e2 : word / 256 % 256 ≡ b = omega arith in
    let e3 : word / 65536 % 256 ≡ c = omega arith in
    let e4 : word / 16777216 ≡ d = omega arith in
    rw (e1, e2, e3, e4) refl

-- the 1 bits before, and 32 bits: nothing is lost
pub all_fits : (n word : ℕ) → n ≤ 6 → word < 4294967296
    → ((word + 1) * 2 ^ n % 2 ^ 64 ≡ (word + 1) * 2 ^ n) × (1 ≤ (word + 1) * 2 ^ n % 2 ^ 64)
all_fits zero word h small = (omega arith, omega arith)
all_fits (suc zero) word h small = (omega arith, omega arith)
all_fits (suc (suc zero)) word h small = (omega arith, omega arith)
all_fits (suc (suc (suc zero))) word h small = (omega arith, omega arith)
all_fits (suc (suc (suc (suc zero)))) word h small = (omega arith, omega arith)
all_fits (suc (suc (suc (suc (suc zero))))) word h small = (omega arith, omega arith)
all_fits (suc (suc (suc (suc (suc (suc zero)))))) word h small = (omega arith, omega arith)
all_fits (suc (suc (suc (suc (suc (suc (suc n))))))) word h small = absurd (omega arith)

pub fives_few : (n word : ℕ) → n ≤ 6 → word < 2 ^ 32 → fives ((word + 1) * 2 ^ n % 2 ^ 64 - 1) < 2 ^ 34
fives_few n word h small =
    let x : ℕ = (word + 1) * 2 ^ n % 2 ^ 64 - 1 in
    let most : (word + 1) * 2 ^ n ≤ 2 ^ 32 * 2 ^ 6 = mul-le (word + 1) (2 ^ n) (2 ^ 32) (2 ^ 6) (omega arith) (pow_mono {i = n} {j = 6} h) in
    let few : fives x ≤ x / 16 = and_le_r (bit_and (bit_and x (x / 2)) (bit_and x (x / 2) / 4)) (x / 16) in
    omega arith

-- ---- plain octets come to an open gap

pub or_false : (x : Bool) → (x || false) ≡ x
or_false true = refl
or_false false = refl

pub plain_four : (a : OctetBuffer) (g h : Gathering) (gap : List Bool) (o1 o2 o3 o4 word : ℕ) → Gathers a g gap → g.bits < 2 ^ g.part
    → g.last < 256 → o1 < 256 → o2 < 256 → o3 < 256 → o4 < 256 → word ≡ o1 + 256 * (o2 + 256 * (o3 + 256 * o4))
    → plain (g.row / 256) (bits_of LsbFirst (o1 ∷ o2 ∷ o3 ∷ o4 ∷ [])) ≡ true → h.bits ≡ g.bits + word * 2 ^ g.part → h.part ≡ g.part + 32
    → h.last ≡ g.last → h.row ≡ min 6 (ones_at_end 0 (octet_bits o4)) * 256 → h.aborted ≡ g.aborted
    → Gathers a h (gap ++ bits_of LsbFirst (o1 ∷ o2 ∷ o3 ∷ o4 ∷ []))
plain_four a g h gap o1 o2 o3 o4 word old fits small l1 l2 l3 l4 value calm more part last row aborted =
    let bits : List Bool = bits_of LsbFirst (o1 ∷ o2 ∷ o3 ∷ o4 ∷ []) in
    let n : ℕ = g.row / 256 in
    let less : n < 5 = plain_less n bits calm in
    let few : min 5 n ≡ n = omega arith in
    let same : unstuffed_from (min 5 n) bits ≡ bits = ap (λ k. unstuffed_from k bits) few ∙ plain_same bits n calm in
    let is : word ≡ number (unstuffed_from (min 5 n) bits) = value ∙ sym (ap number same ∙ number_four o1 o2 o3 o4 l1 l2 l3 l4) in
    let size : 32 ≡ length (unstuffed_from (min 5 n) bits) =
    sym (ap length same ∙ length-bits_in LsbFirst (o1 ∷ o2 ∷ o3 ∷ o4 ∷ []) 32) in
    let end : ones_at_end n bits ≡ ones_at_end 0 (octet_bits o4) = end_of_four n o1 o2 o3 o4 (plain_end bits n calm) in
    with_bits a g h gap bits old fits small (more ∙ ap (λ v. g.bits + v * 2 ^ g.part) is) (part ∙ ap (λ k. g.part + k) size) last
    (row ∙ ap (λ k. min 6 k * 256) (sym end))
    (aborted ∙ sym (ap (λ t. g.aborted || t) (ap (λ k. six_from k bits) few ∙ plain_calm bits n calm) ∙ or_false g.aborted))
