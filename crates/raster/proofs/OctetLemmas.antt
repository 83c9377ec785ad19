-- Octets and their bits: octets joined, octets of bits and back, bits packed into octets. For the layers above.
use Rattle.std.proofs.Common.{◌≡◌, ℕ, zero, suc, ◌<◌, ◌≤◌, ◌+◌, ◌*◌, ◌/◌, ◌^◌, ◌&&◌, Bool, true, false, List, [], ◌∷◌, ◌++◌}
use Rattle.std.proofs.Common.{length, map, take, drop, cond, replicate, refl, ap, sym, ◌∙◌, arith, inl, inr, nat_eq, get_or}
use Rattle.std.specs.Bool.{beq}
use Rattle.std.specs.Int.{bit_at}
use Rattle.std.specs.List.{range_with_len}
use Rattle.std.proofs.lemmas.List.{length-append, length-replicate, length-take, take-append-drop, take_at, drop_at, drop-drop}
use Rattle.std.proofs.lemmas.Bool.{and_parts, cases_eq, ne_eqb, eq-eqb}
use Rattle.std.proofs.lemmas.Nat.Bits.{bit_at-lt}
use Rattle.raster.specs.Packed.{bits_of}
use Rattle.raster.specs.Octets.{number, octet_at, octets_of, AreOctets, fill_of, packed}
use Rattle.raster.specs.Laws.{BitsJoin, PackedHold, PackedAlone}
use Rattle.raster.specs.declared.packed.Order.TheVariants.{LsbFirst}
use Rattle.raster.proofs.OctetBits.{octet_bits, bits_of-cons, bits_of-join}
use Rattle.raster.proofs.PackedLemmas.{length-bits_in, bits_in-none}

-- ---- octets joined, in either order

pub bits_of-append : BitsJoin
bits_of-append order xs ys = bits_of-join order xs ys

-- ---- octets of bits, and back

map_shift : {X : Type 0} (f g : ℕ → X) (a n : ℕ) → ((i : ℕ) → f (i + 1) ≡ g i)
    → map f (range_with_len (a + 1) n) ≡ map g (range_with_len a n)
map_shift f g a zero same = refl
map_shift f g a (suc n) same =
    ap (λ x. x ∷ map f (range_with_len (a + 1 + 1) n)) (same a) ∙ ap (λ xs. g a ∷ xs) (map_shift f g (a + 1) n same)

-- eight bits more in front are an octet more
pub octets_of-cons : (front rest : List Bool) → length front ≡ 8 → octets_of (front ++ rest) ≡ number front ∷ octets_of rest
unfolding octets_of
octets_of-cons front rest h =
    let size : length (front ++ rest) / 8 ≡ suc (length rest / 8) = rw length-append (omega arith) in
    let first : take 8 (front ++ rest) ≡ front = take_at front rest 8 h in
    let shift : (i : ℕ) → octet_at (front ++ rest) (i + 1) ≡ octet_at rest i = λ i.
    let split : 8 * (i + 1) ≡ 8 + 8 * i = omega arith in
    ap (λ xs. number (take 8 xs)) (ap (λ n. drop n (front ++ rest)) split ∙
    (sym (drop-drop (8 * i) 8 (front ++ rest)) ∙ ap (drop (8 * i)) (drop_at front rest 8 h))) in
    ap (λ n. map (octet_at (front ++ rest)) (range_with_len 0 n)) size ∙
    (ap (λ xs. number xs ∷ map (octet_at (front ++ rest)) (range_with_len (0 + 1) (length rest / 8))) first ∙
    ap (λ xs. number front ∷ xs) (map_shift (octet_at (front ++ rest)) (octet_at rest) 0 (length rest / 8) shift))

pub octets_of-none : octets_of [] ≡ []
unfolding octets_of
octets_of-none = refl

low_bit : (x place : ℕ) → cond (nat_eq (bit_at x place) 1) 1 0 ≡ bit_at x place
low_bit x place = elim (cases_eq (bit_at x place) 1) [
  | inl e ↦ rw (eq-eqb (bit_at x place) 1 e) (sym e)
  | inr ne ↦ rw (ne_eqb (bit_at x place) 1 ne) (let below : bit_at x place < 2 = bit_at-lt x place in omega arith)
]

-- the bits of an octet write it
pub number-octet_bits : (x : ℕ) → x < 256 → number (octet_bits x) ≡ x
number-octet_bits x h =
    rw (low_bit x 0, low_bit x 1, low_bit x 2, low_bit x 3, low_bit x 4, low_bit x 5, low_bit x 6, low_bit x 7) (omega arith)

-- octets are those of their bits
pub octets_back : (octets : List ℕ) → AreOctets octets → octets_of (bits_of LsbFirst octets) ≡ octets
octets_back [] small = ap octets_of (bits_in-none LsbFirst []) ∙ octets_of-none
octets_back (x ∷ xs) small =
    ap octets_of (bits_of-cons x xs) ∙
    (octets_of-cons (octet_bits x) (bits_of LsbFirst xs) refl ∙
    (ap (λ n. n ∷ octets_of (bits_of LsbFirst xs)) (number-octet_bits x small.0) ∙ ap (λ ys. x ∷ ys) (octets_back xs small.1)))

pub are_octets : (xs : List ℕ) → ((k : ℕ) → get_or xs k 0 < 256) → AreOctets xs
are_octets [] small = tt
are_octets (x ∷ xs) small = (small 0, are_octets xs (λ k. small (suc k)))

pub are_octets-append : (xs ys : List ℕ) → AreOctets xs → AreOctets ys → AreOctets (xs ++ ys)
are_octets-append [] ys a b = b
are_octets-append (x ∷ xs) ys a b = (a.0, are_octets-append xs ys a.1 b)

-- ---- bits packed into octets

-- each list of this many bits passes a test
abbrev every : ℕ → (List Bool → Bool) → Bool
every zero test = test []
every (suc n) test = every n (λ xs. test (true ∷ xs)) && every n (λ xs. test (false ∷ xs))

every_at : (n : ℕ) (test : List Bool → Bool) → every n test ≡ true → (xs : List Bool) → length xs ≡ n → test xs ≡ true
every_at zero test h [] e = h
every_at zero test h (x ∷ xs) e = absurd (omega arith)
every_at (suc n) test h [] e = absurd (omega arith)
every_at (suc n) test h (true ∷ xs) e =
    let both = and_parts (every n (λ ys. test (true ∷ ys))) (every n (λ ys. test (false ∷ ys))) h in
    every_at n (λ ys. test (true ∷ ys)) both.0 xs (omega arith)
every_at (suc n) test h (false ∷ xs) e =
    let both = and_parts (every n (λ ys. test (true ∷ ys))) (every n (λ ys. test (false ∷ ys))) h in
    every_at n (λ ys. test (false ∷ ys)) both.1 xs (omega arith)

abbrev same_bits : List Bool → List Bool → Bool
same_bits [] [] = true
same_bits [] (y ∷ ys) = false
same_bits (x ∷ xs) [] = false
same_bits (x ∷ xs) (y ∷ ys) = beq x y && same_bits xs ys

same_bits_same : (xs ys : List Bool) → same_bits xs ys ≡ true → xs ≡ ys
same_bits_same [] [] h = refl
same_bits_same [] (y ∷ ys) h = cc
same_bits_same (x ∷ xs) [] h = cc
same_bits_same (true ∷ xs) (true ∷ ys) h = ap (λ l. true ∷ l) (same_bits_same xs ys h)
same_bits_same (true ∷ xs) (false ∷ ys) h = cc
same_bits_same (false ∷ xs) (true ∷ ys) h = cc
same_bits_same (false ∷ xs) (false ∷ ys) h = ap (λ l. false ∷ l) (same_bits_same xs ys h)

-- eight bits are those of their number
pub octet_bits-number : (bits : List Bool) → length bits ≡ 8 → octet_bits (number bits) ≡ bits
octet_bits-number bits e =
    same_bits_same (octet_bits (number bits)) bits (every_at 8 (λ xs. same_bits (octet_bits (number xs)) xs) refl bits e)

-- bits of whole octets are those of their octets
pub bits_of-octets_of : (n : ℕ) (bits : List Bool) → length bits ≡ 8 * n → bits_of LsbFirst (octets_of bits) ≡ bits
bits_of-octets_of zero [] e = ap (bits_of LsbFirst) octets_of-none ∙ bits_in-none LsbFirst []
bits_of-octets_of zero (x ∷ xs) e = absurd (omega arith)
bits_of-octets_of (suc n) bits e =
    let split : take 8 bits ++ drop 8 bits ≡ bits = take-append-drop 8 bits in
    let sizes : length (take 8 bits) + length (drop 8 bits) ≡ length bits =
    sym (length-append (take 8 bits) (drop 8 bits)) ∙ ap length split in
    let front : length (take 8 bits) ≡ 8 = rw length-take (omega arith) in
    let rest : length (drop 8 bits) ≡ 8 * n = omega arith in
    ap (λ l. bits_of LsbFirst (octets_of l)) (sym split) ∙
    (ap (bits_of LsbFirst) (octets_of-cons (take 8 bits) (drop 8 bits) front) ∙
    (bits_of-cons (number (take 8 bits)) (octets_of (drop 8 bits)) ∙
    (ap (λ l. l ++ bits_of LsbFirst (octets_of (drop 8 bits))) (octet_bits-number (take 8 bits) front) ∙
    (ap (λ l. take 8 bits ++ l) (bits_of-octets_of n (drop 8 bits) rest) ∙ split))))

number_below : (n : ℕ) (bits : List Bool) → length bits ≤ n → number bits < 2 ^ n
number_below zero [] h = omega arith
number_below (suc n) [] h = let few : 0 < 2 ^ n = number_below n [] (omega arith) in omega arith
number_below zero (b ∷ bits) h = absurd (omega arith)
number_below (suc n) (true ∷ bits) h = let few : number bits < 2 ^ n = number_below n bits (omega arith) in omega arith
number_below (suc n) (false ∷ bits) h = let few : number bits < 2 ^ n = number_below n bits (omega arith) in omega arith

octet_at-below : (bits : List Bool) (place : ℕ) → octet_at bits place < 256
octet_at-below bits place = number_below 8 (take 8 (drop (8 * place) bits)) (rw length-take (omega arith))

octets_from : (bits : List Bool) (place n : ℕ) → AreOctets (map (octet_at bits) (range_with_len place n))
octets_from bits place zero = tt
octets_from bits place (suc n) = (octet_at-below bits place, octets_from bits (place + 1) n)

-- octets of bits are octets
pub are_octets-octets_of : (bits : List Bool) → AreOctets (octets_of bits)
unfolding octets_of
are_octets-octets_of bits = octets_from bits 0 (length bits / 8)

-- the bits of packed bits are the bits and the 0 bits that fill them
pub bits_of-packed : (bits : List Bool) → bits_of LsbFirst (packed bits) ≡ bits ++ replicate (fill_of (length bits)) false
unfolding packed
bits_of-packed bits =
    let n : ℕ = length bits in
    let size : length (bits ++ replicate (fill_of n) false) ≡ n + fill_of n =
    length-append bits (replicate (fill_of n) false) ∙ ap (λ m. n + m) (length-replicate (fill_of n) false) in
    bits_of-octets_of ((n + fill_of n) / 8) (bits ++ replicate (fill_of n) false) (omega arith)

-- octets that hold the bits and fewer than eight 0 bits are the packed bits
pub packed_is : PackedAlone
unfolding packed
packed_is bits octets fills small =
    let size : 8 * length octets ≡ length bits + fills.fill =
    sym (length-bits_in LsbFirst octets (8 * length octets)) ∙ (ap length fills.filled ∙
    (length-append bits (replicate fills.fill false) ∙ ap (λ m. length bits + m) (length-replicate fills.fill false))) in
    let fill : fills.fill ≡ fill_of (length bits) = omega (arith, fills.few) in
    sym (octets_back octets small) ∙ ap octets_of (fills.filled ∙ ap (λ m. bits ++ replicate m false) fill)

pub packed_hold : PackedHold
unfolding packed
packed_hold bits = (are_octets-octets_of (bits ++ replicate (fill_of (length bits)) false), bits_of-packed bits)
