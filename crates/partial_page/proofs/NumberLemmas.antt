-- Faults, blocks, stores and maps by numbers, octets and places.
use Rattle.std.proofs.Common.{◌≡◌, ℕ, zero, suc, ◌+◌, ◌-◌, ◌*◌, ◌/◌, ◌%◌, ◌<◌, ◌≤◌, ◌||◌, ◌++◌, Bool, true, false, cond, List, [], ◌∷◌}
use Rattle.std.proofs.Common.{length, take, drop, replicate, set, get_or, nat_eq, not, refl, sym, ap, ◌∙◌, arith, inl, inr}
use Rattle.std.proofs.Common.{Option, Some, None, Ok, Contains, subst, eq-eqb}
use Rattle.std.specs.Int.{div_ceil, bit_at}
use Rattle.std.specs.Prelude.{◌↔◌, ◌⊎◌, min, slice_index, slice_index_or, is_some}
use Rattle.std.proofs.lemmas.List.{length-take-le, length-drop, get_or-take, get_or-drop, length-set, ext_get_or}
use Rattle.std.proofs.lemmas.List.{get_or-set_same, get_or-set_other}
use Rattle.std.proofs.lemmas.List.FromFn.{length-map-range_with_len, get_or-map-range_with_len}
use Rattle.std.proofs.lemmas.Bool.{cases_eq, cases_lt, le-leb, lt-ltb, lt-leb, le-ltb, ne_eqb}
use Rattle.std.proofs.lemmas.Nat.Bits.{bit_at-lt}
use Rattle.partial_page.specs.ByNumbers.{fault_list, FaultsHaveNumbers, octets_a_frame, octets_a_block, most_blocks, CutsByPlaces}
use Rattle.partial_page.specs.ByNumbers.{LimitsByBlocks, if_none, asked, map_octet, map_octets, MapsByOctets, HasTaken, PutsByPlaces}
use Rattle.partial_page.specs.Faults.{number_of}
use Rattle.partial_page.specs.Frames.{frame_size, frames_for, filled, cut}
use Rattle.partial_page.specs.Store.{StoredFrames, IsMissingMap, IsWhole, PutsFrame, bit_of, has_frame, is_marked, frame_of}
use Rattle.partial_page.specs.declared.fault.BlockFault.{BlockFault}
use Rattle.partial_page.specs.declared.fault.BlockFault.TheVariants.{NoMemory, TooLong, PageTooLong}
use Rattle.partial_page.proofs.BlockLemmas.{length-blocks, length-block, get_or-frame, length-filled}
use Rattle.partial_page.proofs.StoreLemmas.{zeros}

-- ---- faults

named : (fault : BlockFault) → Contains fault_list (number_of fault, fault)
named NoMemory = (0, omega arith, refl)
named TooLong = (1, omega arith, refl)
named PageTooLong = (2, omega arith, refl)

numbered : (n : ℕ) (fault : BlockFault) (k : ℕ) → k < 3 → slice_index_or fault_list k (n, fault) ≡ (n, fault) → number_of fault ≡ n
numbered n fault zero l e = subst (λ pair. number_of pair.1 ≡ pair.0) e refl
numbered n fault (suc zero) l e = subst (λ pair. number_of pair.1 ≡ pair.0) e refl
numbered n fault (suc (suc zero)) l e = subst (λ pair. number_of pair.1 ≡ pair.0) e refl
numbered n fault (suc (suc (suc k))) l e = absurd (omega arith)

pub faults-have-numbers : FaultsHaveNumbers
faults-have-numbers n fault =
    (λ e. subst (λ m. Contains fault_list (m, fault)) e (named fault), λ has. numbered n fault has.0 has.1 has.2)

-- ---- blocks

size_is : (small : Bool) → frame_size small ≡ octets_a_frame small
size_is true = refl
size_is false = refl

begins_inside : (small : Bool) (n k : ℕ) → k < div_ceil (frames_for small n) 256 → k * octets_a_block small < n
begins_inside true n k h = omega arith
begins_inside false n k h = omega arith

reaches_end : (small : Bool) (n : ℕ) → n ≤ div_ceil (frames_for small n) 256 * octets_a_block small
reaches_end true n = omega arith
reaches_end false n = omega arith

frame_begins : (small : Bool) (n k i : ℕ) → i < min 256 (frames_for small n - k * 256) →
    k * octets_a_block small + i * octets_a_frame small < n
frame_begins true n k i h = omega arith
frame_begins false n k i h = omega arith

frames_reach_end : (small : Bool) (n k : ℕ) → k < div_ceil (frames_for small n) 256 →
    (min 256 (frames_for small n - k * 256) ≡ 256) ⊎
    (n ≤ k * octets_a_block small + min 256 (frames_for small n - k * 256) * octets_a_frame small)
frames_reach_end true n k h =
    elim (cases_lt (frames_for true n - k * 256) 256) [ inl less ↦ inr (omega arith) | inr more ↦ inl (omega arith) ]
frames_reach_end false n k h =
    elim (cases_lt (frames_for false n - k * 256) 256) [ inl less ↦ inr (omega arith) | inr more ↦ inl (omega arith) ]

frame_ends : (small : Bool) (n k i : ℕ) → k * 256 + i < frames_for small n →
    (k * 256 + i) * frame_size small + octets_a_frame small ≤ frames_for small n * frame_size small
frame_ends true n k i h = omega arith
frame_ends false n k i h = omega arith

same_place : (small : Bool) (k n i : ℕ) →
    (k * 256 + n) * frame_size small + i ≡ k * octets_a_block small + n * octets_a_frame small + i
same_place true k n i = omega arith
same_place false k n i = omega arith

-- after the octets come 00, as past the end of any list
filled_at : (octets : List ℕ) (count i : ℕ) → get_or (octets ++ replicate count 0) i 0 ≡ get_or octets i 0
filled_at [] count i = zeros count i
filled_at (x ∷ xs) count zero = refl
filled_at (x ∷ xs) count (suc i) = filled_at xs count i

pub cuts-by-places : CutsByPlaces
cuts-by-places small octets =
    let count : ℕ = frames_for small (length octets) in
    let size : ℕ = frame_size small in
    let inside : List ℕ = filled small octets in
    let within : (k : ℕ) → k < length (cut small octets) → k < div_ceil count 256 = λ k h. rw length-blocks at h in
    let long : (k : ℕ) → k < length (cut small octets) → length (get_or (cut small octets) k []) ≡ min 256 (count - k * 256) =
    λ k h. length-block size count inside k [] (within k h) in
    let frame : (k n : ℕ) → k < length (cut small octets) → n < length (get_or (cut small octets) k []) →
    get_or (get_or (cut small octets) k []) n [] ≡ take size (drop ((k * 256 + n) * size) inside) =
    λ k n h l.
    let most : n < min 256 (count - k * 256) = omega (arith, long k h, l) in
    get_or-frame size count inside k n (within k h) (omega (arith, most)) (omega (arith, most)) in
    record {
      begins = λ k h. begins_inside small (length octets) k (within k h);
      reaches = rw length-blocks (reaches_end small (length octets));
      frames_begin = λ k n h l.
          let most : n < min 256 (count - k * 256) = omega (arith, long k h, l) in
          (omega (arith, most), frame_begins small (length octets) k n most);
      frames_reach = λ k h. rw (long k h) (frames_reach_end small (length octets) k (within k h));
      sizes = λ k n h l.
          let most : n < min 256 (count - k * 256) = omega (arith, long k h, l) in
          let ends : (k * 256 + n) * size + octets_a_frame small ≤ count * size =
          frame_ends small (length octets) k n (omega (arith, most)) in
          let room : size ≤ length (drop ((k * 256 + n) * size) inside) =
          rw length-drop (omega (arith, ends, size_is small, length-filled small octets)) in
          ap length (frame k n h l) ∙ length-take-le size (drop ((k * 256 + n) * size) inside) room ∙ size_is small;
      places = λ k n i h l below.
          let less : i < size = omega (arith, below, size_is small) in
          ap (λ xs. get_or xs i 0) (frame k n h l)
          ∙ get_or-take size (drop ((k * 256 + n) * size) inside) i 0 less
          ∙ get_or-drop ((k * 256 + n) * size) inside i 0
          ∙ filled_at octets (count * size - length octets) ((k * 256 + n) * size + i)
          ∙ ap (λ place. get_or octets place 0) (same_place small k n i);
    }

limit_is : (small : Bool) → most_blocks small * octets_a_block small ≡ 8388608
limit_is true = refl
limit_is false = refl

pub limits-by-blocks : LimitsByBlocks
limits-by-blocks = record {
  taken = λ small coded blocks.
      (λ h. (omega (arith, h.0, limit_is small), h.1), λ h. (omega (arith, h.0, limit_is small), h.1));
  too_long = λ small coded. (λ h. omega (arith, h, limit_is small), λ h. omega (arith, h, limit_is small));
  memory = λ small coded. (λ h. omega (arith, h, limit_is small), λ h. omega (arith, h, limit_is small));
  no_other = λ small coded h. h;
  frames = refl;
}

-- ---- maps

-- a number is asked for exactly if it is marked
asked_is : (frames : List (Option (List ℕ))) (last n : ℕ) → asked frames last n ≡ cond (is_marked frames last n) 1 0
asked_is frames last n = elim (cases_lt last n) [
  | inl above ↦ rw (lt-ltb last n above, lt-leb n last above) refl
  | inr upto ↦ rw (le-ltb last n upto, le-leb n last upto) (by_frame (frame_of frames n))
]
  where
    by_frame : (frame : Option (List ℕ)) → if_none frame ≡ cond (not (is_some frame)) 1 0
    by_frame None = refl
    by_frame (Some octets) = refl

as_number : (bit : Bool) → nat_eq (cond bit 1 0) 1 ≡ bit
as_number true = refl
as_number false = refl

below_two : (bit : Bool) → cond bit 1 0 < 2
below_two true = omega arith
below_two false = omega arith

asked_low : (frames : List (Option (List ℕ))) (last n : ℕ) → asked frames last n < 2
asked_low frames last n = rw (asked_is frames last n) (below_two (is_marked frames last n))

-- the bits of eight numbers below 2, each with its weight
bit_is : (x : ℕ → ℕ) → ((i : ℕ) → x i < 2) → (i : ℕ) → i < 8 →
    bit_at (x 0 + 2 * x 1 + 4 * x 2 + 8 * x 3 + 16 * x 4 + 32 * x 5 + 64 * x 6 + 128 * x 7) i ≡ x i
bit_is x low zero l = omega (arith, low 0, low 1, low 2, low 3, low 4, low 5, low 6, low 7)
bit_is x low (suc zero) l = omega (arith, low 0, low 1, low 2, low 3, low 4, low 5, low 6, low 7)
bit_is x low (suc (suc zero)) l = omega (arith, low 0, low 1, low 2, low 3, low 4, low 5, low 6, low 7)
bit_is x low (suc (suc (suc zero))) l = omega (arith, low 0, low 1, low 2, low 3, low 4, low 5, low 6, low 7)
bit_is x low (suc (suc (suc (suc zero)))) l = omega (arith, low 0, low 1, low 2, low 3, low 4, low 5, low 6, low 7)
bit_is x low (suc (suc (suc (suc (suc zero))))) l = omega (arith, low 0, low 1, low 2, low 3, low 4, low 5, low 6, low 7)
bit_is x low (suc (suc (suc (suc (suc (suc zero)))))) l = omega (arith, low 0, low 1, low 2, low 3, low 4, low 5, low 6, low 7)
bit_is x low (suc (suc (suc (suc (suc (suc (suc zero))))))) l = omega (arith, low 0, low 1, low 2, low 3, low 4, low 5, low 6, low 7)
bit_is x low (suc (suc (suc (suc (suc (suc (suc (suc i)))))))) l = absurd (omega arith)

-- an octet is its eight bits, each with its weight
octet_is : (x : ℕ) → x < 256 →
    x ≡ bit_at x 0 + 2 * bit_at x 1 + 4 * bit_at x 2 + 8 * bit_at x 3 + 16 * bit_at x 4 + 32 * bit_at x 5 + 64 * bit_at x 6 +
    128 * bit_at x 7
octet_is x l = omega arith

first_is : (k : ℕ) → 8 * k ≡ 8 * k + 0
first_is k = omega arith

octet_bit : (frames : List (Option (List ℕ))) (last k i : ℕ) → i < 8 →
    bit_at (map_octet frames last k) i ≡ asked frames last (8 * k + i)
octet_bit frames last k i l =
    ap (λ first. bit_at (asked frames last first + 2 * asked frames last (8 * k + 1) + 4 * asked frames last (8 * k + 2) +
    8 * asked frames last (8 * k + 3) + 16 * asked frames last (8 * k + 4) + 32 * asked frames last (8 * k + 5) +
    64 * asked frames last (8 * k + 6) + 128 * asked frames last (8 * k + 7)) i) (first_is k)
    ∙ bit_is (λ j. asked frames last (8 * k + j)) (λ j. asked_low frames last (8 * k + j)) i l

map-is : (frames : List (Option (List ℕ))) (last : ℕ) → IsMissingMap frames last (map_octets frames last)
map-is frames last = record {
  size = length-map-range_with_len (map_octet frames last) 0 32;
  bits = λ n l.
      let inside : n / 8 < 32 = omega arith in
      let below : n % 8 < 8 = omega arith in
      let whole : 8 * (n / 8) + n % 8 ≡ n = omega arith in
      ap (λ octet. nat_eq (bit_at octet (n % 8)) 1)
      (get_or-map-range_with_len (map_octet frames last) 0 32 (n / 8) (n / 8) 0 inside (omega arith))
      ∙ ap (λ bit. nat_eq bit 1) (octet_bit frames last (n / 8) (n % 8) below ∙ ap (asked frames last) whole ∙ asked_is frames last n)
      ∙ as_number (is_marked frames last n);
}

-- the bit of an octet as a number
low_bit : (x place : ℕ) → cond (nat_eq (bit_at x place) 1) 1 0 ≡ bit_at x place
low_bit x place = elim (cases_eq (bit_at x place) 1) [
  | inl e ↦ rw (eq-eqb (bit_at x place) 1 e) (sym e)
  | inr ne ↦ rw (ne_eqb (bit_at x place) 1 ne) (let below : bit_at x place < 2 = bit_at-lt x place in omega arith)
]

-- the bit of an octet at its place in the whole map
bit_at_place : (octets : List ℕ) (k j : ℕ) → j < 8 → bit_of octets (8 * k + j) ≡ nat_eq (bit_at (get_or octets k 0) j) 1
bit_at_place octets k j below =
    let octet : (8 * k + j) / 8 ≡ k = omega arith in
    let place : (8 * k + j) % 8 ≡ j = omega arith in
    rw (octet, place) refl

bit_in_map :
    (frames : List (Option (List ℕ))) (last : ℕ) (octets : List ℕ) → IsMissingMap frames last octets → (k j : ℕ) → k < 32 → j < 8 →
    bit_at (get_or octets k 0) j ≡ asked frames last (8 * k + j)
bit_in_map frames last octets is k j inside below =
    let within : 8 * k + j < 256 = omega arith in
    let marked : nat_eq (bit_at (get_or octets k 0) j) 1 ≡ is_marked frames last (8 * k + j) =
    sym (bit_at_place octets k j below) ∙ is.bits (8 * k + j) within in
    sym (low_bit (get_or octets k 0) j) ∙ ap (λ bit. cond bit 1 0) marked ∙ sym (asked_is frames last (8 * k + j))

map-alone : (frames : List (Option (List ℕ))) (last : ℕ) (octets : List ℕ) → ((k : ℕ) → slice_index octets k < 256) →
    IsMissingMap frames last octets → octets ≡ map_octets frames last
map-alone frames last octets small is =
    ext_get_or 0 octets (map_octets frames last) (is.size ∙ sym (length-map-range_with_len (map_octet frames last) 0 32))
    (λ k h.
    let inside : k < 32 = omega (arith, h, is.size) in
    let bit : (j : ℕ) → j < 8 → bit_at (get_or octets k 0) j ≡ asked frames last (8 * k + j) =
    λ j below. bit_in_map frames last octets is k j inside below in
    octet_is (get_or octets k 0) (small k)
    ∙ rw (
      bit 0 (omega arith),
      bit 1 (omega arith),
      bit 2 (omega arith),
      bit 3 (omega arith),
      bit 4 (omega arith),
      bit 5 (omega arith),
      bit 6 (omega arith),
      bit 7 (omega arith),
    ) (ap (λ first. asked frames last first + 2 * asked frames last (8 * k + 1) + 4 * asked frames last (8 * k + 2) +
    8 * asked frames last (8 * k + 3) + 16 * asked frames last (8 * k + 4) + 32 * asked frames last (8 * k + 5) +
    64 * asked frames last (8 * k + 6) + 128 * asked frames last (8 * k + 7)) (sym (first_is k)))
    ∙ sym (get_or-map-range_with_len (map_octet frames last) 0 32 k k 0 inside (omega arith)))

whole-unasked : (frames : List (Option (List ℕ))) (last : ℕ) → IsWhole frames last ↔ ((n : ℕ) → n ≤ last → asked frames last n ≡ 0)
whole-unasked frames last = (
  λ whole n l. asked_is frames last n ∙ rw (le-ltb last n l, whole n l) refl,
  λ none n l. there (has_frame frames n) (sym (rw (asked_is frames last n, le-ltb last n l) refl) ∙ none n l),
)
  where
    there : (has : Bool) → ◌≡◌ {A = ℕ} (cond (false || not has) 1 0) 0 → has ≡ true
    there true e = refl
    there false e = absurd (omega (arith, e))

pub maps-by-octets : MapsByOctets
maps-by-octets = record { octets = map-is; alone = map-alone; whole = whole-unasked }

-- ---- frames

taken-so : (old new : StoredFrames) (n : ℕ) (octets : List ℕ) → n < length old.frames → PutsFrame old n octets new (Ok tt) →
    HasTaken old n octets new
taken-so old new n octets within h = record {
  fits = omega (arith, h.0, size_is old.small);
  size = ap (λ store. store.small) h.1;
  ready = ap (λ store. store.ready) h.1;
  places = ap (λ store. length store.frames) h.1 ∙ length-set old.frames n (Some octets);
  here = ap (λ store. get_or store.frames n None) h.1 ∙ get_or-set_same old.frames n (Some octets) None within;
  others = λ k other. ap (λ store. get_or store.frames k None) h.1 ∙ get_or-set_other old.frames n k (Some octets) None other;
}

so-taken : (old new : StoredFrames) (n : ℕ) (octets : List ℕ) → n < length old.frames → HasTaken old n octets new →
    PutsFrame old n octets new (Ok tt)
so-taken old new n octets within h =
    let store : Bool → List (Option (List ℕ)) → Bool → StoredFrames =
    λ small frames ready. record { small = small; frames = frames; ready = ready } in
    let frames_are : new.frames ≡ set old.frames n (Some octets) =
    ext_get_or None new.frames (set old.frames n (Some octets)) (h.places ∙ sym (length-set old.frames n (Some octets)))
    (λ i l. elim (cases_eq i n) [
      | inl e ↦ rw e (h.here ∙ sym (get_or-set_same old.frames n (Some octets) None within))
      | inr other ↦ h.others i other ∙ sym (get_or-set_other old.frames n i (Some octets) None other)
    ]) in (
      omega (arith, h.fits, size_is old.small),
      ap (λ small. store small new.frames new.ready) h.size
          ∙ ap (λ frames. store old.small frames new.ready) frames_are
          ∙ ap (store old.small (set old.frames n (Some octets))) h.ready,
    )

pub puts-by-places : PutsByPlaces
puts-by-places = record {
  taken = λ old new n octets within. (taken-so old new n octets within, so-taken old new n octets within);
  too_long = λ old new n octets.
      (λ h. (omega (arith, h.0, size_is old.small), h.1), λ h. (omega (arith, h.0, size_is old.small), h.1));
  memory = λ old new n octets.
      (λ h. (omega (arith, h.0, size_is old.small), h.1, h.2), λ h. (omega (arith, h.0, size_is old.small), h.1, h.2));
  no_other = λ old new n octets h. h;
}
