-- The first pixel of a block of 32 octets that differs from the one before it.
use Rattle.std.proofs.Common.{◌≡◌, ◌≢◌, ℕ, ◌+◌, ◌-◌, ◌*◌, ◌/◌, ◌%◌, ◌^◌, ◌<◌, ◌≤◌, Bool, true, false, List, refl, sym, ap, [], ◌∷◌, ◌∙◌}
use Rattle.std.proofs.Common.{get_or, length, map, nat_eq, arith, bit_xor, zero, suc, inl, inr}
use Rattle.std.specs.Prelude.{not, cond}
use Rattle.std.specs.Int.{bit_at}
use Rattle.std.specs.Simd.Lanes.{mask_l}
use Rattle.std.proofs.lemmas.Simd.{bit_mask_l, mask_l-lt}
use Rattle.std.proofs.lemmas.Nat.Bits.{bit_at-lt, bit_at-zero, bit_at_above, bit_at_ones, bit_at_xor, same_from_bits, same_from_bits_below}
use Rattle.std.proofs.lemmas.Bool.{cases_lt, cases_eq, eq-eqb, ne_eqb}
use Rattle.raster.specs.Packed.{bit_in}
use Rattle.raster.specs.Pixels.{color_of}
use Rattle.raster.specs.Words.{IsFirstOther}
use Rattle.raster.specs.Changes.{pixel_in, pixel_before, IsBlockChange}
use Rattle.raster.specs.declared.packed.Order.TheVariants.{MsbFirst}
use Rattle.raster.specs.declared.row.Color.{Color}
use Rattle.raster.proofs.WordLemmas.{bit_at_rest}
use Rattle.raster.proofs.FirstLemmas.{FirstOne}

-- an octet whose bits are all alike
pub record IsFill (bit : Bool) (same : ℕ) : Type 0 where
  pub small : same < 256
  pub bits : (i : ℕ) → i < 8 → nat_eq (bit_at same i) 1 ≡ bit

pub fill_black : IsFill true 255
fill_black = record { small = omega arith; bits = λ i h. ap (λ b. nat_eq b 1) (bit_at_ones 8 i h) }

pub fill_white : IsFill false 0
fill_white = record { small = omega arith; bits = λ i h. ap (λ b. nat_eq b 1) (bit_at-zero i) }

-- which octets differ from one
abbrev pub others : List ℕ → ℕ → ℕ
others octets same = mask_l (map {A = ℕ} {B = Bool} (λ octet. not (nat_eq octet same)) octets)

get_or-others : (octets : List ℕ) (same i : ℕ) → i < length octets → get_or (map {A = ℕ} {B = Bool} (λ octet. not (nat_eq octet same))
    octets) i false ≡ not (nat_eq (get_or octets i 0) same)
get_or-others [] same i h = absurd (omega arith)
get_or-others (x ∷ xs) same zero h = refl
get_or-others (x ∷ xs) same (suc i) h = get_or-others xs same i (omega arith)

others_bit : (octets : List ℕ) (same i : ℕ) → i < length octets → bit_at (others octets same) i ≡ cond (not (nat_eq (get_or octets i 0)
    same)) 1 0
others_bit octets same i h =
    bit_mask_l (map {A = ℕ} {B = Bool} (λ octet. not (nat_eq octet same)) octets) i ∙ ap (λ (b : Bool). cond b 1 0) (get_or-others octets
    same i h)

-- an octet whose bit is 0 is the same, and one whose bit is 1 is another
pub no_other : (octets : List ℕ) (same i : ℕ) → i < length octets → bit_at (others octets same) i ≡ 0 → get_or octets i 0 ≡ same
no_other octets same i h e =
    elim (cases_eq (get_or octets i 0) same) [
      | inl is ↦ is
      | inr ne ↦
          let one : bit_at (others octets same) i ≡ 1 = others_bit octets same i h ∙ ap (λ (b : Bool). cond (not b) 1 0) (ne_eqb (get_or
          octets i 0) same ne) in
          absurd (omega (arith, one, e))
    ]

pub is_other : (octets : List ℕ) (same i : ℕ) → i < length octets → bit_at (others octets same) i ≡ 1 → get_or octets i 0 ≢ same
is_other octets same i h e is =
    let none : bit_at (others octets same) i ≡ 0 = others_bit octets same i h ∙ ap (λ (b : Bool). cond (not b) 1 0) (eq-eqb (get_or octets i
    0) same is) in
    absurd (omega (arith, none, e))

pub others_within : (octets : List ℕ) (same t : ℕ) → length octets ≡ 32 → bit_at (others octets same) t ≡ 1 → t < 32
others_within octets same t long e =
    elim (cases_lt t 32) [
      | inl h ↦ h
      | inr past ↦
          let marks : List Bool = map {A = ℕ} {B = Bool} (λ octet. not (nat_eq octet same)) octets in
          let size : length marks ≡ 32 = length-marks octets ∙ long in
          let small : others octets same < 2 ^ 32 = rw size at (mask_l-lt marks) in
          absurd (omega (arith, e, bit_at_above (others octets same) 32 t small past))
    ]
  where
    length-marks : (xs : List ℕ) → length (map {A = ℕ} {B = Bool} (λ octet. not (nat_eq octet same)) xs) ≡ length xs
    length-marks [] = refl
    length-marks (x ∷ xs) = ap suc (length-marks xs)

-- a bit that the octet of one color has too
alike : (x same i : ℕ) (bit : Bool) → IsFill bit same → i < 8 → bit_at (bit_xor x same) i ≡ 0 → nat_eq (bit_at x i) 1 ≡ bit
alike x same i bit fill h e =
    let is : bit_at x i ≡ bit_at same i = omega (arith, bit_at_xor x same i, e, bit_at-lt x i, bit_at-lt same i) in
    ap (λ b. nat_eq b 1) is ∙ fill.bits i h

apart : (a b : ℕ) → a < 2 → b < 2 → (a + b) % 2 ≡ 1 → nat_eq a 1 ≡ not (nat_eq b 1)
apart zero zero p q e = absurd (omega arith)
apart zero (suc zero) p q e = refl
apart (suc zero) zero p q e = refl
apart (suc zero) (suc zero) p q e = absurd (omega arith)
apart zero (suc (suc b)) p q e = absurd (omega arith)
apart (suc zero) (suc (suc b)) p q e = absurd (omega arith)
apart (suc (suc a)) b p q e = absurd (omega arith)

unlike : (x same i : ℕ) (bit : Bool) → IsFill bit same → i < 8 → bit_at (bit_xor x same) i ≡ 1 → nat_eq (bit_at x i) 1 ≡ not bit
unlike x same i bit fill h e =
    apart (bit_at x i) (bit_at same i) (bit_at-lt x i) (bit_at-lt same i) (sym (bit_at_xor x same i) ∙ e) ∙ ap not (fill.bits i h)

pub xor_below : (x y : ℕ) → x < 256 → y < 256 → bit_xor x y < 2 ^ 8
xor_below x y p q =
    let whole : bit_xor x y ≡ bit_xor x y % 2 ^ 8 = same_from_bits (bit_xor x y) (bit_xor x y % 2 ^ 8) each in
    omega (arith, whole)
  where
    each : (i : ℕ) → bit_at (bit_xor x y) i ≡ bit_at (bit_xor x y % 2 ^ 8) i
    each i =
        elim (cases_lt i 8) [
          | inl h ↦ sym (bit_at_rest (bit_xor x y) 8 i h)
          | inr h ↦
              let small : bit_xor x y % 2 ^ 8 < 2 ^ 8 = omega arith in
              omega (
                arith,
                bit_at_xor x y i,
                bit_at_above x 8 i p h,
                bit_at_above y 8 i q h,
                bit_at_above (bit_xor x y % 2 ^ 8) 8 i small h,
              )
        ]

first_within : (x same c : ℕ) (bit : Bool) → IsFill bit same → x < 256 → x ≢ same → FirstOne 8 (bit_xor x same) c → c < 8
first_within x same c bit fill small ne first =
    elim (cases_lt c 8) [
      | inl h ↦ h
      | inr all ↦ absurd (ne (same_from_bits_below 8 x same small fill.small (each all)))
    ]
  where
    each : 8 ≤ c → (i : ℕ) → i < 8 → bit_at x i ≡ bit_at same i
    each all i h =
        let back : 8 - 1 - (7 - i) ≡ i = omega arith in
        let few : 7 - i < c = omega arith in
        omega (
          arith,
          ap (bit_at (bit_xor x same)) (sym back) ∙ first.zeros (7 - i) few,
          bit_at_xor x same i,
          bit_at-lt x i,
          bit_at-lt same i,
        )

all_alike_in : (octets : List ℕ) (same k : ℕ) (bit : Bool) → IsFill bit same → get_or octets (k / 8) 0 ≡ same
    → bit_in MsbFirst octets k ≡ bit
all_alike_in octets same k bit fill is = ap (λ x. nat_eq (bit_at x (7 - k % 8)) 1) is ∙ fill.bits (7 - k % 8) (omega arith)

-- no octet is another
pub first_none : (octets : List ℕ) (same : ℕ) (bit : Bool) → IsFill bit same → length octets ≡ 32 → others octets same ≡ 0
    → IsFirstOther octets 0 256 bit 256
first_none octets same bit fill long none = record {
  low = omega arith;
  high = omega arith;
  before = λ k low h. all_alike_in octets same k bit fill (no_other octets same (k / 8) (omega arith) (ap (λ n. bit_at n (k / 8)) none
      ∙ bit_at-zero (k / 8)));
  hit = λ h. absurd (omega arith);
}

-- the first octet that is another, and its first bit that is
pub first_some : (octets : List ℕ) (same t c : ℕ) (bit : Bool) → IsFill bit same → length octets ≡ 32 → get_or octets t 0 < 256
    → bit_at (others octets same) t ≡ 1 → ((i : ℕ) → i < t → bit_at (others octets same) i ≡ 0)
    → FirstOne 8 (bit_xor (get_or octets t 0) same) c → IsFirstOther octets 0 256 bit (8 * t + c)
first_some octets same t c bit fill long small one zeros first =
    let within : t < 32 = others_within octets same t long one in
    let few : c < 8 = first_within (get_or octets t 0) same c bit fill small (is_other octets same t (omega arith) one) first in
    record {
      low = omega arith;
      high = omega arith;
      before = λ k low h.
          elim (cases_lt (k / 8) t) [
            | inl early ↦ all_alike_in octets same k bit fill (no_other octets same (k / 8) (omega arith) (zeros (k / 8) early))
            | inr late ↦
                let here : k / 8 ≡ t = omega arith in
                ap (λ (i : ℕ). nat_eq (bit_at (get_or octets i 0) (7 - k % 8)) 1) here ∙
                alike (get_or octets t 0) same (7 - k % 8) bit fill (omega arith) (first.zeros (k % 8) (omega arith))
          ];
      hit = λ h.
          let here : (8 * t + c) / 8 ≡ t = omega arith in
          let place : (8 * t + c) % 8 ≡ c = omega arith in
          ap (λ (i : ℕ). nat_eq (bit_at (get_or octets i 0) (7 - (8 * t + c) % 8)) 1) here ∙
          (ap (λ (i : ℕ). nat_eq (bit_at (get_or octets t 0) (7 - i)) 1) place ∙
          unlike (get_or octets t 0) same (7 - c) bit fill (omega arith) (first.one few));
    }

-- ---- pixels

turned : (bit : Bool) → color_of (not bit) ≢ color_of bit
turned true e = cc
turned false e = cc

before_is : (octets : List ℕ) (before : Color) (bit : Bool) (place k : ℕ) → color_of bit ≡ before → IsFirstOther octets 0 256 bit place
    → k ≤ place → pixel_before before octets k ≡ color_of bit
before_is octets before bit place zero is first h = sym is
before_is octets before bit place (suc k) is first h = ap color_of (first.before k (omega arith) (omega arith))

pub block_change : (octets : List ℕ) (before : Color) (bit : Bool) (place : ℕ) → color_of bit ≡ before → IsFirstOther octets 0 256 bit place
    → IsBlockChange octets before place
block_change octets before bit place is first = record {
  bound = first.high;
  changing = λ h e. turned bit (sym (ap color_of (first.hit h)) ∙ (e ∙ before_is octets before bit place place is first (omega arith)));
  least = λ k h. ap color_of (first.before k (omega arith) h) ∙ sym (before_is octets before bit place k is first (omega arith));
}

same_bit : (a b : Bool) → color_of a ≡ color_of b → a ≡ b
same_bit true true e = refl
same_bit true false e = cc
same_bit false true e = cc
same_bit false false e = refl

other_bit : (a b : Bool) → color_of a ≢ color_of b → a ≡ not b
other_bit true true ne = absurd (ne refl)
other_bit true false ne = refl
other_bit false true ne = refl
other_bit false false ne = absurd (ne refl)

-- and back
pub block_first : (octets : List ℕ) (before : Color) (bit : Bool) (place : ℕ) → color_of bit ≡ before → IsBlockChange octets before place
    → IsFirstOther octets 0 256 bit place
block_first octets before bit place is change = record {
  low = omega arith;
  high = change.bound;
  before = λ k low h. same_bit (bit_in MsbFirst octets k) bit (steady k h ∙ sym is);
  hit = λ h. other_bit (bit_in MsbFirst octets place) bit (λ e. change.changing h (e ∙ (is ∙ sym (so_far place (omega arith)))));
}
  where
    steady : (k : ℕ) → k < place → pixel_in octets k ≡ before
    steady zero h = change.least zero h
    steady (suc k) h = change.least (suc k) h ∙ steady k (omega arith)

    so_far : (k : ℕ) → k ≤ place → pixel_before before octets k ≡ before
    so_far zero h = refl
    so_far (suc k) h = steady k (omega arith)
