-- Octets with the order of their bits turned.
use Rattle.std.proofs.Common.{◌≡◌, ◌<◌, ◌+◌, ◌/◌, ◌%◌, ◌++◌, ◌∷◌, [], ℕ, Bool, List, true, ap, sym, ◌∙◌, subst, arith, take, slice_index}
use Rattle.std.specs.Prelude.{nat_eq}
use Rattle.std.specs.Int.{bit_at}
use Rattle.std.proofs.lemmas.List.{append-nil, append_assoc}
use Rattle.std.proofs.lemmas.List.FromFn.{fill_by_all, get_or-map-range_with_len, length-map-range_with_len}
use Rattle.raster.specs.Packed as Packed
use Rattle.raster.specs.Packed.{bit_in, bits_in, bits_of}
use Rattle.raster.specs.Words.{IsWordAt, bit_of_word}
use Rattle.raster.specs.declared.packed.Order.{Order}
use Rattle.raster.specs.declared.packed.Order.TheVariants.{LsbFirst, MsbFirst}
use Rattle.raster.proofs.OctetBits.{bits_of-join}
use Rattle.raster.proofs.PackedLemmas.{bits_in-none}
use Rattle.hdlc.specs.DeframerState.{DeframerState, IsAfter}

-- the same bits in two orders
same_bits : (order other : Order) (xs ys : List ℕ) (n : ℕ) → ((k : ℕ) → k < n → bit_in order xs k ≡ bit_in other ys k)
    → bits_in order xs n ≡ bits_in other ys n
unfolding Packed.bits_in
same_bits order other xs ys n same =
    fill_by_all (λ place. bit_in other ys place) (bits_in order xs n) n true
    (length-map-range_with_len (λ place. bit_in order xs place) 0 n)
    (λ k h. get_or-map-range_with_len (λ place. bit_in order xs place) 0 n k k true h (omega arith) ∙ same k h)

-- the first of the octets of a word that an octet begins with
pub turned_octet : (octet word result : ℕ) (octets : List ℕ) → IsWordAt MsbFirst (octet ∷ []) 0 word
    → ((k : ℕ) → k < 64 → bit_in LsbFirst octets k ≡ bit_of_word word k) → result ≡ slice_index octets 0
    → bits_of LsbFirst (result ∷ []) ≡ bits_of MsbFirst (octet ∷ [])
turned_octet octet word result octets is holds first =
    same_bits LsbFirst MsbFirst (result ∷ []) (octet ∷ []) 8
    (λ k h.
    let none : k / 8 ≡ 0 = omega (arith, h) in
    let at : 0 + k ≡ k = omega arith in
    ap (λ i. nat_eq (bit_at (slice_index (result ∷ []) i) (k % 8)) 1) none
    ∙ (ap (λ x. nat_eq (bit_at x (k % 8)) 1) first
    ∙ (sym (ap (λ i. nat_eq (bit_at (slice_index octets i) (k % 8)) 1) none)
    ∙ (holds k (omega (arith, h)) ∙ (is k (omega (arith, h)) ∙ ap (bit_in MsbFirst (octet ∷ [])) at)))))

-- no octet came
pub none_turned : (framing : DeframerState) (piece : List ℕ) (bits : List Bool) (handed : ℕ) → IsAfter framing bits handed
    → IsAfter framing (bits ++ bits_of MsbFirst (take 0 piece)) handed
none_turned framing piece bits handed after =
    subst (λ b. IsAfter framing b handed) (sym (ap (λ b. bits ++ b) (bits_in-none MsbFirst []) ∙ append-nil bits)) after

-- one octet more
pub one_turned : (fed : DeframerState) (piece : List ℕ) (i octet result : ℕ) (bits : List Bool) (handed : ℕ)
    → take (i + 1) piece ≡ take i piece ++ octet ∷ [] → bits_of LsbFirst (result ∷ []) ≡ bits_of MsbFirst (octet ∷ [])
    → IsAfter fed ((bits ++ bits_of MsbFirst (take i piece)) ++ bits_of LsbFirst (result ∷ [])) handed
    → IsAfter fed (bits ++ bits_of MsbFirst (take (i + 1) piece)) handed
one_turned fed piece i octet result bits handed more turned after =
    let before : List Bool = bits_of MsbFirst (take i piece) in
    let all : bits_of MsbFirst (take (i + 1) piece) ≡ before ++ bits_of MsbFirst (octet ∷ []) =
    ap (bits_of MsbFirst) more ∙ bits_of-join MsbFirst (take i piece) (octet ∷ []) in
    subst (λ b. IsAfter fed b handed)
    (append_assoc bits before (bits_of LsbFirst (result ∷ [])) ∙ ap (λ b. bits ++ b) (ap (λ b. before ++ b) turned ∙ sym all))
    after
