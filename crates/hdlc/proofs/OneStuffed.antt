-- Octets with one stuffed bit, four at a time.
use Rattle.std.proofs.Common.{◌≡◌, ℕ, zero, suc, ◌+◌, ◌-◌, ◌*◌, ◌/◌, ◌%◌, ◌^◌, ◌<◌, ◌≤◌, Bool, true, false, not, ◌&&◌, List, [], ◌∷◌}
use Rattle.std.proofs.Common.{◌||◌, ◌++◌, length, cond, min, refl, ap, sym, ◌∙◌, arith, nat_eq, nat_lt, bit_and, subst, inl, inr}
use lib.Bits.{and_self}
use Rattle.std.proofs.Math.Pow.{pow_mono}
use Rattle.std.proofs.lemmas.Nat.{and_shr, shr-shr, pow-add, pow_pos, mod-pow-add, shr_high, and_mask}
use Rattle.std.proofs.lemmas.Nat.Bits.{bit_at_and, bit_at-pow_same}
use Rattle.std.proofs.lemmas.Bool.{and_parts, cases_lt, cases_eq, eqb-true, lt-ltb}
use Rattle.std.specs.Int.{bit_at}
use Rattle.raster.specs.Octets.{number}
use Rattle.hdlc.specs.EightBits.{run_after, unstuffed_from, six_from, ones_at_end, plain, fives, stuffed_alone, IsStuffedAlone}
use Rattle.hdlc.specs.Gathers.{Gathers}
use Rattle.hdlc.specs.declared.gathering.Gathering.{Gathering}
use Rattle.hdlc.specs.declared.octet_buffer.OctetBuffer.{OctetBuffer}
use Rattle.raster.specs.Packed.{bits_of}
use Rattle.raster.specs.declared.packed.Order.TheVariants.{LsbFirst}
use Rattle.raster.proofs.OctetBits.{octet_bits}
use Rattle.raster.proofs.PackedLemmas.{length-bits_in}
use Rattle.hdlc.proofs.UnstuffedLemmas.{number_fits}
use Rattle.hdlc.proofs.GatheringLemmas.{with_bits}
use Rattle.hdlc.proofs.PlainOctets.{or_false, end_of_four, less_if, run_is, plain_same, plain_calm, plain_end, plain_if, fives_half, five_low, up, down}

-- ---- what the others are

-- bits without the only stuffed one
pub record Left (ones : ℕ) (bits : List Bool) (place : ℕ) : Type 0 where
  pub few : ones ≤ 5
  pub value : 2 * number (unstuffed_from ones bits) ≡ number bits + number bits % 2 ^ place
  pub size : 1 + length (unstuffed_from ones bits) ≡ length bits
  pub calm : six_from ones bits ≡ false
  pub end : ones_at_end ones bits < 5
  pub within : place < length bits

not_true : (b : Bool) → not b ≡ true → b ≡ false
not_true true h = sym h
not_true false h = refl

here : (bits : List Bool) → plain 0 bits ≡ true → Left 5 (false ∷ bits) 0
here bits fine =
    let same : unstuffed_from 0 bits ≡ bits = plain_same bits 0 fine in
    let value : number (unstuffed_from 0 bits) ≡ number bits = ap number same in
    let size : length (unstuffed_from 0 bits) ≡ length bits = ap length same in
    record {
      few = omega arith;
      value = omega arith;
      size = omega arith;
      calm = plain_calm bits 0 fine;
      end = plain_end bits 0 fine;
      within = omega arith;
    }

double_mod : (c m k : ℕ) → c < 2 → (c + 2 * m) % 2 ^ suc k ≡ c + 2 * (m % 2 ^ k)
double_mod c m k small =
    let power : suc k ≡ k + 1 = omega arith in
    let half : (c + 2 * m) / 2 ≡ m = omega arith in
    ap (λ j. (c + 2 * m) % 2 ^ j) power ∙ (mod-pow-add (c + 2 * m) k 1 ∙ (ap (λ n. n % 2 ^ k * 2 + (c + 2 * m) % 2) half ∙ omega arith))

later : (n k : ℕ) (b : Bool) (bits : List Bool) → n < 5 → Left (cond b (1 + n) 0) bits k → Left n (b ∷ bits) (suc k)
later n k b bits less rest =
    let left : List Bool = unstuffed_from (cond b (1 + n) 0) bits in
    let same : unstuffed_from n (b ∷ bits) ≡ b ∷ left =
    ap (λ t. cond t (b ∷ []) [] ++ unstuffed_from (run_after n b) bits) (lt-ltb n 5 less)
    ∙ ap (λ r. b ∷ unstuffed_from r bits) (run_is n b less) in
    let calm : six_from n (b ∷ bits) ≡ six_from (cond b (1 + n) 0) bits =
    ap (λ t. (not t && b) || six_from (run_after n b) bits) (lt-ltb n 5 less) ∙ ap (λ r. six_from r bits) (run_is n b less) in
    let first : cond b 1 0 < 2 = bit b in
    let value : 2 * (cond b 1 0 + 2 * number left) ≡ cond b 1 0 + 2 * number bits + (cond b 1 0 + 2 * (number bits % 2 ^ k)) =
    omega (arith, rest.value) in
    record {
      few = omega arith;
      value =
          ap (λ xs. 2 * number xs) same ∙ (value ∙ ap (λ m. cond b 1 0 + 2 * number bits + m) (sym (double_mod (cond b 1 0) (number bits) k first)));
      size = ap (λ xs. 1 + length xs) same ∙ omega (arith, rest.size);
      calm = calm ∙ rest.calm;
      end = rest.end;
      within = omega (arith, rest.within);
    }
  where
    bit : (b : Bool) → cond b 1 0 < 2
    bit true = omega arith
    bit false = omega arith

pub one_left : (bits : List Bool) (n k : ℕ) → stuffed_alone n bits k ≡ true → Left n bits k
one_left [] n k h = cc
one_left (b ∷ bits) n zero h =
    let parts = and_parts (nat_eq n 5) (not b && plain 0 bits) h in
    let rest = and_parts (not b) (plain 0 bits) parts.1 in
    subst (λ m. Left m (b ∷ bits) 0) (sym (eqb-true n 5 parts.0))
    (subst (λ t. Left 5 (t ∷ bits) 0) (sym (not_true b rest.0)) (here bits rest.1))
one_left (b ∷ bits) n (suc k) h =
    let parts = and_parts (nat_lt n 5) (stuffed_alone (cond b (1 + n) 0) bits k) h in
    later n k b bits (less_if n parts.0) (one_left bits (cond b (1 + n) 0) k parts.1)

-- ---- a number with one 1 bit is a power of two

power_if : (w n : ℕ) → 0 < n → n < 2 ^ w → bit_and n (n - 1) ≡ 0 → (i : ℕ) × (n ≡ 2 ^ i)
power_if zero n least most h = absurd (omega arith)
power_if (suc w) n least most h = elim (cases_eq (n % 2) 0) [
  | inl even ↦
      let less : (n - 1) / 2 ≡ n / 2 - 1 = omega arith in
      let rest : bit_and (n / 2) (n / 2 - 1) ≡ 0 =
      ap (bit_and (n / 2)) (sym less) ∙ (sym (and_shr n (n - 1) 1) ∙ ap (λ m. m / 2) h) in
      let power : 2 ^ suc w ≡ 2 ^ w * 2 = powers w in
      let half = power_if w (n / 2) (omega arith) (omega arith) rest in
      (suc half.0, omega (arith, half.1, powers half.0))
  | inr odd ↦
      let less : (n - 1) / 2 ≡ n / 2 = omega arith in
      let none : n / 2 ≡ 0 = sym (and_self (n / 2)) ∙ (ap (bit_and (n / 2)) (sym less) ∙ (sym (and_shr n (n - 1) 1) ∙ ap (λ m. m / 2) h)) in
      (0, omega arith)
]
  where
    powers : (k : ℕ) → 2 ^ suc k ≡ 2 ^ k * 2
    powers k = let next : suc k ≡ k + 1 = omega arith in ap (λ j. 2 ^ j) next ∙ pow-add 2 k 1

-- ---- where five 1 bits in a row begin

both_ones : (a b i : ℕ) → bit_at (bit_and a b) i ≡ 1 → (bit_at a i ≡ 1) × (bit_at b i ≡ 1)
both_ones a b i h =
    let least : min (bit_at a i) (bit_at b i) ≡ 1 = sym (bit_at_and a b i) ∙ h in
    (omega arith, omega arith)

five_ones : (x i : ℕ) → bit_at (fives x) i ≡ 1
    → (bit_at x i ≡ 1) × (bit_at (x / 2) i ≡ 1) × (bit_at (x / 4) i ≡ 1) × (bit_at (x / 2 / 4) i ≡ 1) × (bit_at (x / 16) i ≡ 1)
five_ones x i h =
    let pairs : ℕ = bit_and x (x / 2) in
    let five = both_ones (bit_and pairs (pairs / 4)) (x / 16) i h in
    let four = both_ones pairs (pairs / 4) i five.0 in
    let two = both_ones x (x / 2) i four.0 in
    let high = both_ones (x / 4) (x / 2 / 4) i (ap (λ n. bit_at n i) (sym (and_shr x (x / 2) 2)) ∙ four.1) in
    (two.0, two.1, high.0, high.1, five.1)

-- none of them begin before a 0 that comes after fewer than five 1 bits
absent : (m n i : ℕ) → n < 5 → i ≤ n → bit_at (fives ((0 + 2 * m + 1) * 2 ^ n - 1)) i ≡ 1 → ⊥
absent m zero zero few least h = absurd (omega (arith, (five_ones ((0 + 2 * m + 1) * 1 - 1) 0 h).0))
absent m zero (suc i) few least h = absurd (omega arith)
absent m (suc zero) zero few least h = absurd (omega (arith, (five_ones ((0 + 2 * m + 1) * 2 - 1) 0 h).1))
absent m (suc zero) (suc zero) few least h = absurd (omega (arith, (five_ones ((0 + 2 * m + 1) * 2 - 1) 1 h).0))
absent m (suc zero) (suc (suc i)) few least h = absurd (omega arith)
absent m (suc (suc zero)) zero few least h = absurd (omega (arith, (five_ones ((0 + 2 * m + 1) * 4 - 1) 0 h).2))
absent m (suc (suc zero)) (suc zero) few least h = absurd (omega (arith, (five_ones ((0 + 2 * m + 1) * 4 - 1) 1 h).1))
absent m (suc (suc zero)) (suc (suc zero)) few least h = absurd (omega (arith, (five_ones ((0 + 2 * m + 1) * 4 - 1) 2 h).0))
absent m (suc (suc zero)) (suc (suc (suc i))) few least h = absurd (omega arith)
absent m (suc (suc (suc zero))) zero few least h = absurd (omega (arith, (five_ones ((0 + 2 * m + 1) * 8 - 1) 0 h).3))
absent m (suc (suc (suc zero))) (suc zero) few least h = absurd (omega (arith, (five_ones ((0 + 2 * m + 1) * 8 - 1) 1 h).2))
absent m (suc (suc (suc zero))) (suc (suc zero)) few least h = absurd (omega (arith, (five_ones ((0 + 2 * m + 1) * 8 - 1) 2 h).1))
absent m (suc (suc (suc zero))) (suc (suc (suc zero))) few least h = absurd (omega (arith, (five_ones ((0 + 2 * m + 1) * 8 - 1) 3 h).0))
absent m (suc (suc (suc zero))) (suc (suc (suc (suc i)))) few least h = absurd (omega arith)
absent m (suc (suc (suc (suc zero)))) zero few least h = absurd (omega (arith, (five_ones ((0 + 2 * m + 1) * 16 - 1) 0 h).4))
absent m (suc (suc (suc (suc zero)))) (suc zero) few least h = absurd (omega (arith, (five_ones ((0 + 2 * m + 1) * 16 - 1) 1 h).3))
absent m (suc (suc (suc (suc zero)))) (suc (suc zero)) few least h = absurd (omega (arith, (five_ones ((0 + 2 * m + 1) * 16 - 1) 2 h).2))
absent m (suc (suc (suc (suc zero)))) (suc (suc (suc zero))) few least h = absurd (omega (arith, (five_ones ((0 + 2 * m + 1) * 16 - 1) 3 h).1))
absent m (suc (suc (suc (suc zero)))) (suc (suc (suc (suc zero)))) few least h = absurd (omega (arith, (five_ones ((0 + 2 * m + 1) * 16 - 1) 4 h).0))
absent m (suc (suc (suc (suc zero)))) (suc (suc (suc (suc (suc i))))) few least h = absurd (omega arith)
absent m (suc (suc (suc (suc (suc n))))) i few least h = absurd (omega arith)

fives_shift : (k x : ℕ) → fives (x / 2 ^ k) ≡ fives x / 2 ^ k
fives_shift zero x =
    let same : x / 1 ≡ x = omega arith in
    let all : fives x / 1 ≡ fives x = omega arith in
    ap fives same ∙ sym all
fives_shift (suc k) x =
    let power : 1 + k ≡ suc k = omega arith in
    sym (ap fives (shr-shr x 1 k ∙ ap (λ n. x / 2 ^ n) power))
    ∙ (fives_shift k (x / 2) ∙ (ap (λ n. n / 2 ^ k) (fives_half x) ∙ (shr-shr (fives x) 1 k ∙ ap (λ n. fives x / 2 ^ n) power)))

odd_power : (i : ℕ) → 2 ^ i % 2 ≡ 1 → i ≡ 0
odd_power zero h = refl
odd_power (suc i) h =
    let next : suc i ≡ i + 1 = omega arith in
    let power : 2 ^ suc i ≡ 2 ^ i * 2 = ap (λ j. 2 ^ j) next ∙ pow-add 2 i 1 in
    absurd (omega arith)

-- with six 1 bits in a row there is not one place alone
six_two : (x i : ℕ) → x % 64 ≡ 63 → fives x ≡ 2 ^ i → ⊥
six_two x i h e =
    let one : fives x % 2 ≡ 1 = five_low x (omega arith) in
    let none : i ≡ 0 = odd_power i (ap (λ n. n % 2) (sym e) ∙ one) in
    let is : fives x ≡ 1 = e ∙ ap (λ j. 2 ^ j) none in
    let next : fives x / 2 % 2 ≡ 1 = ap (λ n. n % 2) (sym (fives_half x)) ∙ five_low (x / 2) (omega arith) in
    absurd (omega arith)

lower : (i j : ℕ) → j ≤ i → 2 ^ i / 2 ^ j ≡ 2 ^ (i - j)
lower i j h =
    let sum : i ≡ (i - j) + j = omega arith in
    let same : 2 ^ i ≡ 2 ^ (i - j) * 2 ^ j + 0 = ap (λ k. 2 ^ k) sum ∙ (pow-add 2 (i - j) j ∙ omega arith) in
    ap (λ n. n / 2 ^ j) same ∙ shr_high (2 ^ (i - j)) j 0 (pow_pos j)

-- the stuffed bit comes after them
record At (n : ℕ) (bits : List Bool) (i : ℕ) : Type 0 where
  most : n ≤ i + 5
  alone : stuffed_alone n bits (i + 5 - n) ≡ true

at_five : (bits : List Bool) (i : ℕ) → fives ((0 + 2 * number bits + 1) * 32 - 1) ≡ 2 ^ i → At 5 (false ∷ bits) i
at_five bits i e =
    let x : ℕ = (0 + 2 * number bits + 1) * 32 - 1 in
    let odd : 2 ^ i % 2 ≡ 1 = ap (λ n. n % 2) (sym e) ∙ five_low x (omega arith) in
    let none : i ≡ 0 = odd_power i odd in
    let is : fives x ≡ 1 = e ∙ ap (λ j. 2 ^ j) none in
    let high : (number bits + 1) * 2 ^ 0 - 1 ≡ x / 2 ^ 6 = omega arith in
    let rest : fives ((number bits + 1) * 2 ^ 0 - 1) ≡ 0 = ap fives high ∙ (fives_shift 6 x ∙ omega arith) in
    let place : i + 5 - 5 ≡ 0 = omega arith in
    record { most = omega arith; alone = rw (place, plain_if bits 0 (omega arith) rest) refl }

at_true : (bits : List Bool) (n i : ℕ) → n < 5 → At (1 + n) bits i → At n (true ∷ bits) i
at_true bits n i few rest =
    let place : i + 5 - n ≡ suc (i + 5 - (1 + n)) = omega (arith, rest.most) in
    record { most = omega (arith, rest.most); alone = rw (place, lt-ltb n 5 few) rest.alone }

at_false : (bits : List Bool) (n i : ℕ) → n < 5 → n < i → At 0 bits (i - (1 + n)) → At n (false ∷ bits) i
at_false bits n i few past rest =
    let place : i + 5 - n ≡ suc (i - (1 + n) + 5 - 0) = omega arith in
    record { most = omega arith; alone = rw (place, lt-ltb n 5 few) rest.alone }

at_more : (b : Bool) (bits : List Bool) (n i : ℕ) → n ≤ 6 → 5 ≤ n → fives ((number (b ∷ bits) + 1) * 2 ^ n - 1) ≡ 2 ^ i → At n (b ∷ bits) i
at_more b bits n i most many e = elim (cases_eq n 5) [
  | inl five ↦ subst (λ m. At m (b ∷ bits) i) (sym five) (go b (subst (λ m. fives ((number (b ∷ bits) + 1) * 2 ^ m - 1) ≡ 2 ^ i) five e))
  | inr ne ↦
      let six : n ≡ 6 = omega (arith, ne) in
      absurd (six_two ((number (b ∷ bits) + 1) * 64 - 1) i (omega arith)
      (subst (λ m. fives ((number (b ∷ bits) + 1) * 2 ^ m - 1) ≡ 2 ^ i) six e))
]
  where
    go : (b : Bool) → fives ((number (b ∷ bits) + 1) * 32 - 1) ≡ 2 ^ i → At 5 (b ∷ bits) i
    go true e = absurd (six_two ((1 + 2 * number bits + 1) * 32 - 1) i (omega arith) e)
    go false e = at_five bits i e

-- what is known of the bits after one
abbrev Known : List Bool → Type 0
Known bits = (n i : ℕ) → n ≤ 6 → fives ((number bits + 1) * 2 ^ n - 1) ≡ 2 ^ i → i + 5 < n + length bits → At n bits i

at_next : (b : Bool) (bits : List Bool) (n i : ℕ) → Known bits → n < 5 → fives ((number (b ∷ bits) + 1) * 2 ^ n - 1) ≡ 2 ^ i
    → i + 5 < n + length (b ∷ bits) → At n (b ∷ bits) i
at_next true bits n i known few e room =
    at_true bits n i few (known (1 + n) i (omega arith) (sym (ap fives (up (number bits) n few)) ∙ e) (omega arith))
at_next false bits n i known few e room = elim (cases_lt n i) [
  | inl past ↦
      at_false bits n i few past (known 0 (i - (1 + n)) (omega arith) (sym (ap fives (down (number bits) n few))
      ∙ (fives_shift (1 + n) ((0 + 2 * number bits + 1) * 2 ^ n - 1) ∙ (ap (λ m. m / 2 ^ (1 + n)) e ∙ lower i (1 + n) (omega arith))))
      (omega arith))
  | inr least ↦ absurd (absent (number bits) n i few least (ap (λ m. bit_at m i) e ∙ bit_at-pow_same i))
]

place_of : (bits : List Bool) → Known bits
place_of [] n i most e room =
    let six : n ≡ 6 = omega arith in
    absurd (six_two 63 i refl (subst (λ m. fives ((0 + 1) * 2 ^ m - 1) ≡ 2 ^ i) six e))
place_of (b ∷ bits) n i most e room = elim (cases_lt n 5) [
  | inl few ↦ at_next b bits n i (place_of bits) few e room
  | inr many ↦ at_more b bits n i most many e
]

-- 2 to a place, and n places before
place_power : (n i : ℕ) → n ≤ i + 5 → 2 ^ i * 32 / 2 ^ n ≡ 2 ^ (i + 5 - n)
place_power n i h = ap (λ m. m / 2 ^ n) (sym (pow-add 2 i 5)) ∙ lower (i + 5) n h

-- one place where five 1 bits in a row begin tells where the only stuffed bit is
pub stuffed_if : (bits : List Bool) (n five power : ℕ) → n ≤ 6 → length bits ≡ 32 → five ≡ fives ((number bits + 1) * 2 ^ n - 1) → 0 < five
    → five < 2 ^ 34 → bit_and five (five - 1) ≡ 0 → power ≡ five * 32 / 2 ^ n → power < 2 ^ 32 → IsStuffedAlone n bits power
stuffed_if bits n five power most size is least fits one e room =
    let at = power_if 34 five least fits one in
    let i : ℕ = at.0 in
    let near : i + 5 < n + 32 = elim (cases_lt (i + 5) (n + 32)) [
      | inl less ↦ less
      | inr more ↦
          let is : power ≡ 2 ^ (i + 5 - n) = e ∙ (ap (λ m. m * 32 / 2 ^ n) at.1 ∙ place_power n i (omega arith)) in
          let large : 2 ^ 32 ≤ 2 ^ (i + 5 - n) = pow_mono {i = 32} {j = i + 5 - n} (omega arith) in
          absurd (omega arith)
    ] in
    let found : At n bits i = place_of bits n i most (sym is ∙ at.1) (omega arith) in
    record {
      place = i + 5 - n;
      is = e ∙ (ap (λ m. m * 32 / 2 ^ n) at.1 ∙ place_power n i found.most);
      alone = found.alone;
    }

-- ---- they come to an open gap

half_is : (u n m : ℕ) → 2 * u ≡ n + m → (n + m) / 2 ≡ u
half_is u n m h = omega arith

-- 32 bits without the stuffed one, as a number
pub others_are : (bits : List Bool) (n power word : ℕ) → length bits ≡ 32 → word ≡ number bits → IsStuffedAlone n bits power
    → ((word + bit_and word (power - 1)) / 2 ≡ number (unstuffed_from n bits)) × ((word + bit_and word (power - 1)) / 2 < 2 ^ 31)
others_are bits n power word size value stuffed =
    let left : Left n bits stuffed.place = one_left bits n stuffed.place stuffed.alone in
    let low : bit_and word (power - 1) ≡ number bits % 2 ^ stuffed.place =
    ap (λ w. bit_and w (power - 1)) value ∙ (ap (λ p. bit_and (number bits) (p - 1)) stuffed.is ∙ and_mask (number bits) stuffed.place) in
    let is : (word + bit_and word (power - 1)) / 2 ≡ number (unstuffed_from n bits) =
    ap (λ w. (w + bit_and word (power - 1)) / 2) value ∙ (ap (λ m. (number bits + m) / 2) low ∙ half_is _ _ _ left.value) in
    (is, rw is (number_fits (unstuffed_from n bits) 31 (omega (arith, left.size))))

pub one_four : (a : OctetBuffer) (g h : Gathering) (gap : List Bool) (o1 o2 o3 o4 power word : ℕ) → Gathers a g gap → g.bits < 2 ^ g.part
    → g.last < 256 → word ≡ number (bits_of LsbFirst (o1 ∷ o2 ∷ o3 ∷ o4 ∷ []))
    → IsStuffedAlone (g.row / 256) (bits_of LsbFirst (o1 ∷ o2 ∷ o3 ∷ o4 ∷ [])) power
    → h.bits ≡ g.bits + (word + bit_and word (power - 1)) / 2 * 2 ^ g.part → h.part ≡ g.part + 31 → h.last ≡ g.last
    → h.row ≡ min 6 (ones_at_end 0 (octet_bits o4)) * 256 → h.aborted ≡ g.aborted
    → Gathers a h (gap ++ bits_of LsbFirst (o1 ∷ o2 ∷ o3 ∷ o4 ∷ []))
one_four a g h gap o1 o2 o3 o4 power word old fits small value stuffed more part last row aborted =
    let bits : List Bool = bits_of LsbFirst (o1 ∷ o2 ∷ o3 ∷ o4 ∷ []) in
    let n : ℕ = g.row / 256 in
    let left : Left n bits stuffed.place = one_left bits n stuffed.place stuffed.alone in
    let few : min 5 n ≡ n = omega (arith, left.few) in
    let size : length bits ≡ 32 = length-bits_in LsbFirst (o1 ∷ o2 ∷ o3 ∷ o4 ∷ []) 32 in
    let count : length (unstuffed_from n bits) ≡ 31 = omega (arith, left.size) in
    let end : ones_at_end n bits ≡ ones_at_end 0 (octet_bits o4) = end_of_four n o1 o2 o3 o4 left.end in
    with_bits a g h gap bits old fits small
    (more ∙ ap (λ v. g.bits + v * 2 ^ g.part) ((others_are bits n power word size value stuffed).0
    ∙ ap (λ k. number (unstuffed_from k bits)) (sym few)))
    (part ∙ ap (λ k. g.part + k) (sym (ap (λ k. length (unstuffed_from k bits)) few ∙ count))) last
    (row ∙ ap (λ k. min 6 k * 256) (sym end))
    (aborted ∙ sym (ap (λ t. g.aborted || t) (ap (λ k. six_from k bits) few ∙ left.calm) ∙ or_false g.aborted))
