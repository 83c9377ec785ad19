-- The bits of octets, least significant first, place by place.
use Rattle.std.proofs.Common.{◌≡◌, ℕ, ◌+◌, ◌/◌, ◌%◌, ◌^◌, ◌<◌, ◌≤◌, Bool, List, [], ◌∷◌}
use Rattle.std.proofs.Common.{◌++◌, refl, ap, sym, ◌∙◌, arith, length, take, drop}
use Rattle.std.proofs.Common.{get_or, nat_eq, append_assoc}
use Rattle.std.proofs.Math.Seq.{take-add}
use Rattle.std.proofs.lemmas.List.{append-nil, take_more, take_all}
use Rattle.raster.specs.Packed.{bits_in, bit_in, bits_of}
use Rattle.raster.specs.declared.packed.Order.TheVariants.{LsbFirst}
use Rattle.raster.proofs.OctetBits.{octet_bits, bits_of-cons}
use Rattle.raster.proofs.OctetLemmas.{bits_of-append}
use Rattle.raster.proofs.PackedLemmas.{bits_in_more, bits_in-none}

-- the bits up to one place more
pub bits_in-next : (octets : List ℕ) (place : ℕ) → bits_in LsbFirst octets (place + 1) ≡ bits_in LsbFirst octets place
    ++ bit_in LsbFirst octets place ∷ []
bits_in-next octets place = bits_in_more LsbFirst octets octets place (bit_in LsbFirst octets place) (λ k h. refl) refl

-- the bits of one octet
pub bits_of-one : (octet : ℕ) → bits_of LsbFirst (octet ∷ []) ≡ octet_bits octet
bits_of-one octet =
    bits_of-cons octet []
    ∙ (ap (λ xs. octet_bits octet ++ xs) (bits_in-none LsbFirst []) ∙ append-nil (octet_bits octet))

-- the bit at a place of one octet
pub bit_of-one : (octet place : ℕ) → place < 8 → nat_eq (octet / 2 ^ place % 2) 1 ≡ bit_in LsbFirst (octet ∷ []) place
bit_of-one octet place h =
    let first : place / 8 ≡ 0 = omega arith in
    let within : place % 8 ≡ place = omega arith in
    rw (first, within) refl

-- the bits after others, up to one octet more
pub octets-next : (bits : List Bool) (octets : List ℕ) (i d : ℕ) → i < length octets
    → bits ++ bits_of LsbFirst (take (i + 1) octets) ≡ (bits ++ bits_of LsbFirst (take i octets)) ++ bits_of LsbFirst (get_or octets i d ∷
    [])
octets-next bits octets i d h =
    ap (λ xs. bits ++ bits_of LsbFirst xs) (take_more octets i d h)
    ∙ (ap (λ xs. bits ++ xs) (bits_of-append LsbFirst (take i octets) (get_or octets i d ∷ []))
    ∙ sym (append_assoc bits (bits_of LsbFirst (take i octets)) (bits_of LsbFirst (get_or octets i d ∷ []))))

-- the same up to several octets more
pub octets-more : (bits : List Bool) (octets : List ℕ) (i n : ℕ)
    → bits ++ bits_of LsbFirst (take (i + n) octets) ≡ (bits ++ bits_of LsbFirst (take i octets)) ++ bits_of LsbFirst
    (take n (drop i octets))
octets-more bits octets i n =
    ap (λ xs. bits ++ bits_of LsbFirst xs) (take-add i n octets)
    ∙ (ap (λ xs. bits ++ xs) (bits_of-append LsbFirst (take i octets) (take n (drop i octets)))
    ∙ sym (append_assoc bits (bits_of LsbFirst (take i octets)) (bits_of LsbFirst (take n (drop i octets)))))

pub octets-none : (bits : List Bool) → bits ++ bits_of LsbFirst [] ≡ bits
octets-none bits = ap (λ xs. bits ++ xs) (bits_in-none LsbFirst []) ∙ append-nil bits

pub octets-all : (bits : List Bool) (octets : List ℕ) (i : ℕ) → length octets ≤ i
    → bits ++ bits_of LsbFirst (take i octets) ≡ bits ++ bits_of LsbFirst octets
octets-all bits octets i h = ap (λ xs. bits ++ bits_of LsbFirst xs) (take_all i octets h)
