-- Octets whose bits are those of others, each octet's in the other order.
use Rattle.std.proofs.Common.{ℕ, ◌≡◌, ◌≤◌, ◌<◌, ◌+◌, ◌-◌, ◌*◌, ◌/◌, ◌%◌, ◌∙◌, ◌++◌, List, ap, arith, drop, length, map}
use Rattle.std.proofs.Common.{nat_eq, refl, slice_index, sym, take, true, inl, inr}
use Rattle.std.proofs.Math.Seq.{drop-append_seam, take-append_seam}
use Rattle.std.proofs.lemmas.List.{get_or-map, length-append, length-drop, length-map, length-take, map-append, take-append-drop}
use Rattle.std.proofs.lemmas.List.{take-append-le, take_all}
use Rattle.std.proofs.lemmas.Bool.{cases_lt}
use Rattle.std.specs.Int.{bit_at}
use Rattle.std.proofs.lemmas.List.FromFn.{fill_by_all, get_or-map-range_with_len, length-map-range_with_len}
use Rattle.raster.specs.Packed.{bit_in, bits_in, bits_of}
use Rattle.raster.specs.Words.{turned_octet}
use Rattle.raster.specs.declared.packed.Order.{Order}
use Rattle.raster.specs.declared.packed.Order.TheVariants.{LsbFirst, MsbFirst}
use Rattle.page_code.specs.TurnedCodes.{AreTurned, IsTurnedCode, most_turned}
use Rattle.raster.proofs.WordLemmas.{bit_at_turned8}

-- the bit at a place of a turned octet
turned_bit : (octet place : ℕ) → place < 8 → bit_at (turned_octet octet) place ≡ bit_at octet (7 - place)
turned_bit octet place h =
    ap (bit_at (turned_octet octet)) (omega (arith, h)) ∙ bit_at_turned8 octet (7 - place) (omega (arith, h))

pub turned_bits : (xs ys : List ℕ) → length ys ≡ length xs
    → ((j : ℕ) → j < length xs → slice_index ys j ≡ turned_octet (slice_index xs j))
    → bits_of MsbFirst ys ≡ bits_of LsbFirst xs
unfolding bits_in
turned_bits xs ys same turned =
    let count : 8 * length ys ≡ 8 * length xs = omega (arith, same) in
    ap (bits_in MsbFirst ys) count ∙
    fill_by_all (λ place. bit_in LsbFirst xs place) (bits_in MsbFirst ys (8 * length xs)) (8 * length xs) true
    (length-map-range_with_len (λ place. bit_in MsbFirst ys place) 0 (8 * length xs))
    (λ k h. get_or-map-range_with_len (λ place. bit_in MsbFirst ys place) 0 (8 * length xs) k k true h (omega arith) ∙
    ap (λ x. nat_eq x 1) (ap (λ octet. bit_at octet (7 - k % 8)) (turned (k / 8) (omega (arith, h))) ∙
    bit_at_turned8 (slice_index xs (k / 8)) (k % 8) (omega arith)))

-- octets that are turned have the same bits in the other order
pub turned_all : (xs : List ℕ) → bits_of MsbFirst (map turned_octet xs) ≡ bits_of LsbFirst xs
turned_all xs = turned_bits xs (map turned_octet xs) (length-map xs turned_octet) (λ j h. get_or-map turned_octet xs j 0 0 h)

-- octets have the bits of those that are turned in the other order
pub turned_back : (xs : List ℕ) → bits_of LsbFirst (map turned_octet xs) ≡ bits_of MsbFirst xs
unfolding bits_in
turned_back xs =
    let ys : List ℕ = map turned_octet xs in
    let count : 8 * length ys ≡ 8 * length xs = omega (arith, length-map xs turned_octet) in
    ap (bits_in LsbFirst ys) count ∙
    fill_by_all (λ place. bit_in MsbFirst xs place) (bits_in LsbFirst ys (8 * length xs)) (8 * length xs) true
    (length-map-range_with_len (λ place. bit_in LsbFirst ys place) 0 (8 * length xs))
    (λ k h. get_or-map-range_with_len (λ place. bit_in LsbFirst ys place) 0 (8 * length xs) k k true h (omega arith) ∙
    ap (λ x. nat_eq x 1) (ap (λ octet. bit_at octet (k % 8)) (get_or-map turned_octet xs (k / 8) 0 0 (omega (arith, h))) ∙
    turned_bit (slice_index xs (k / 8)) (k % 8) (omega arith)))

-- no more are turned than there are octets
no_more : (turned octets : List ℕ) → AreTurned turned octets → length turned ≤ length octets
no_more turned octets is =
    let long : length turned ≡ length (take (length turned) octets) = ap (λ (xs : List ℕ). length xs) is ∙
    length-map (take (length turned) octets) turned_octet in
    omega (arith, long, length-take (length turned) octets)

-- the first of some octets are the first of these with more
pub turned_of_more : (turned octets more : List ℕ) → AreTurned turned octets → AreTurned turned (octets ++ more)
turned_of_more turned octets more is =
    is ∙ ap (map turned_octet) (sym (take-append-le (length turned) octets more (no_more turned octets is)))

-- a code that is turned, or of which nothing is
pub are_turned : (order : Order) (octets code : List ℕ) → IsTurnedCode order octets code → AreTurned code octets
are_turned MsbFirst octets code is = rw is refl
are_turned LsbFirst octets code is = elim (cases_lt most_turned (length octets)) [
  | inl many ↦ rw (is.1 many) refl
  | inr few ↦
      let all : code ≡ map turned_octet octets = is.0 few in
      let long : length code ≡ length octets = ap (λ (xs : List ℕ). length xs) all ∙ length-map octets turned_octet in
      all ∙ ap (map turned_octet) (sym (take_all (length code) octets (omega (arith, long))))
]

-- octets that are turned from a place on are as many as before
pub as_many : (octets : List ℕ) (from : ℕ) → length (take from octets ++ map turned_octet (drop from octets)) ≡ length octets
as_many octets from =
    length-append (take from octets) (map turned_octet (drop from octets)) ∙
    (ap (λ (n : ℕ). length (take from octets) + n) (length-map (drop from octets) turned_octet) ∙
    (sym (length-append (take from octets) (drop from octets)) ∙ ap (λ (xs : List ℕ). length xs) (take-append-drop from octets)))

-- the octets from a place on
pub rest_is : (octets : List ℕ) (from : ℕ) → take (length octets - from) (drop from octets) ≡ drop from octets
rest_is octets from = take_all (length octets - from) (drop from octets) (omega (arith, length-drop from octets))

-- the octets after those that are turned are turned too
pub turned_further : (kept octets : List ℕ) (from : ℕ) → AreTurned kept octets → from ≡ length kept
    → take from (kept ++ drop from octets) ++ map turned_octet (drop from (kept ++ drop from octets)) ≡ map turned_octet octets
turned_further kept octets from is at =
    rw (at, take-append_seam kept (drop (length kept) octets), drop-append_seam kept (drop (length kept) octets))
    (ap (λ (xs : List ℕ). xs ++ map turned_octet (drop (length kept) octets)) is ∙
    (sym (map-append turned_octet (take (length kept) octets) (drop (length kept) octets)) ∙
    ap (map turned_octet) (take-append-drop (length kept) octets)))
