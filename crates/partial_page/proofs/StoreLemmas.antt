-- The frames of a block in one buffer: what setting a bit and writing a frame's data change.
use Rattle.std.specs.Prelude.{Option}
use Rattle.std.proofs.Common.{◌≡◌, ◌≢◌, ℕ, zero, suc, ◌+◌, ◌*◌, ◌/◌, ◌%◌, ◌^◌, ◌<◌, ◌≤◌, ◌||◌, Bool, true, false, cond, List, length, map}
use Rattle.std.proofs.Common.{replicate, set, take, drop, get_or, nat_eq, nat_lt, bit_or, refl, sym, ap, ◌∙◌, arith, w8, inl, inr, eq-eqb}
use Rattle.std.proofs.Common.{Some, None, ◌++◌, ◌∷◌, append-nil}
use Rattle.std.specs.List.{flat_map, range_with_len}
use Rattle.std.specs.Option.{unwrap_or}
use Rattle.std.specs.Prelude.{[], is_some, slice_index, ◌↔◌, ◌⊎◌}
use Rattle.std.proofs.lemmas.List.{get_or-set_same, get_or-set_other, get_or-replicate, get_or_past, take_more, take_all, take_at}
use Rattle.std.proofs.lemmas.List.{take-take, drop-take, length-take-le, length-append, length-drop, length-take, length-replicate}
use Rattle.std.proofs.lemmas.List.{length-set, ext_get_or}
use Rattle.std.proofs.lemmas.Slice.{take-put_mid_below, drop-put_mid}
use borrow.Rule.Slice.PartMut.{put_mid}
use Rattle.std.proofs.lemmas.List.FromFn.{length-map-range_with_len, get_or-map-range_with_len, map-range_with_len_more}
use Rattle.std.proofs.lemmas.List.Concat.{flat_map-append}
use Rattle.std.proofs.lemmas.List.Folds.{flat_map-map}
use Rattle.std.proofs.lemmas.Nat.Bits.{bit_at_set_same, bit_at_set_other, bit_at-zero}
use Rattle.std.proofs.lemmas.Bool.{cases_eq, cases_lt, cases_order, ltb-true, ltb-false, ne_eqb}
use Rattle.std.proofs.lemmas.Option.{cond_some, none-some}
use Rattle.partial_page.specs.Frames.{frame_size, joined_block}
use Rattle.partial_page.specs.Store.{StoredFrames, IsStore, IsLaidOut, IsKept, data_at, frames_in, frame_of, has_frame, no_frames, bit_of}
use Rattle.partial_page.specs.Store.{joined_frames}

-- one bit is set, and no other changes
pub bit_of-set_bit :
    (octets : List ℕ) (place k : ℕ) → place < 8 * length octets →
    bit_of (set octets (place / 8) (bit_or (get_or octets (place / 8) 0) (1 * 2 ^ (place % 8) % 256))) k ≡ nat_eq k place || bit_of octets k
bit_of-set_bit octets place k h =
    let in_octets : place / 8 < length octets = omega arith in
    let octet : ℕ = get_or octets (place / 8) 0 in
    let changed : ℕ = bit_or octet (1 * 2 ^ (place % 8) % 256) in
    let below : place % 8 < 8 = omega arith in
    elim (cases_eq (k / 8) (place / 8)) [
      | inl e ↦ rw (e, get_or-set_same octets (place / 8) changed 0 in_octets)
          (elim (cases_eq (k % 8) (place % 8)) [
            | inl f ↦ rw (f, bit_at_set_same w8 octet (place % 8) below, eq-eqb k place (omega arith)) refl
            | inr f ↦ rw (bit_at_set_other w8 octet (place % 8) below (k % 8) f, ne_eqb k place (λ g. f (ap (λ n. n % 8) g))) refl
          ])
      | inr e ↦ rw (get_or-set_other octets (place / 8) (k / 8) changed 0 e, ne_eqb k place (λ g. e (ap (λ n. n / 8) g))) refl
    ]

pub zeros : (count k : ℕ) → get_or {A = ℕ} (replicate count 0) k 0 ≡ zero
zeros zero k = refl
zeros (suc count) zero = refl
zeros (suc count) (suc k) = zeros count k

-- no bit of octets 00 is set
pub bit_of-zeros : (count k : ℕ) → bit_of (replicate count 0) k ≡ false
bit_of-zeros count k = rw (zeros count (k / 8), bit_at-zero (k % 8)) refl

pub length-frames_in : (small : Bool) (buffer there lengths : List ℕ) → length (frames_in small buffer there lengths) ≡ 256
unfolding frames_in
length-frames_in small buffer there lengths =
    length-map-range_with_len (λ n. cond (bit_of there n) (Some (data_at small buffer lengths n)) None) 0 256

-- the frame at a number is what lies at its place, if its bit is set
pub frame_of-frames_in :
    (small : Bool) (buffer there lengths : List ℕ) (n : ℕ) → n < 256 →
    frame_of (frames_in small buffer there lengths) n ≡ cond (bit_of there n) (Some (data_at small buffer lengths n)) None
unfolding frames_in
frame_of-frames_in small buffer there lengths n h =
    get_or-map-range_with_len (λ k. cond (bit_of there k) (Some (data_at small buffer lengths k)) None) 0 256 n n None h (omega arith)

pub has_frame-frames_in :
    (small : Bool) (buffer there lengths : List ℕ) (n : ℕ) → n < 256 → has_frame (frames_in small buffer there lengths) n ≡ bit_of there n
has_frame-frames_in small buffer there lengths n h =
    ap is_some (frame_of-frames_in small buffer there lengths n h)
    ∙ (elim (bit_of there n) as (λ b. is_some (cond b (Some (data_at small buffer lengths n)) None) ≡ b) [ true ↦ refl | false ↦ refl ])

frame_is :
    (small : Bool) (buffer there lengths : List ℕ) (n : ℕ) (octets : List ℕ) →
    frame_of (frames_in small buffer there lengths) n ≡ Some octets → data_at small buffer lengths n ≡ octets
frame_is small buffer there lengths n octets is =
    elim (cases_lt n 256) [
      | inl below ↦ (cond_some (bit_of there n) (data_at small buffer lengths n) octets
          (sym (frame_of-frames_in small buffer there lengths n below) ∙ is)).1
      | inr past ↦
          let size : length (frames_in small buffer there lengths) ≤ n = rw length-frames_in past in
          absurd (none-some octets (sym (get_or_past (frames_in small buffer there lengths) n None size) ∙ is))
    ]

-- frames that lie so in memory are a store
pub is_store :
    (small ready : Bool) (buffer there lengths : List ℕ) → IsLaidOut small buffer there lengths →
    IsStore (record { small = small; frames = frames_in small buffer there lengths; ready = ready })
is_store small ready buffer there lengths laid = record {
  places = length-frames_in small buffer there lengths;
  short = λ n octets is.
      let most : slice_index lengths n ≤ frame_size small = laid.short n in
      let long : length (data_at small buffer lengths n) ≤ frame_size small = rw length-take (omega arith) in
      rw (← frame_is small buffer there lengths n octets is) long;
}

-- with no bit set no frame is there
pub none_in :
    (small : Bool) (buffer there lengths : List ℕ) → ((k : ℕ) → k < 256 → bit_of there k ≡ false) →
    frames_in small buffer there lengths ≡ no_frames
unfolding no_frames
none_in small buffer there lengths clear =
    ext_get_or None (frames_in small buffer there lengths) (replicate 256 None)
    (length-frames_in small buffer there lengths ∙ sym (length-replicate {A = Option (List ℕ)} 256 None))
    (λ i h.
    let inside : i < 256 = rw length-frames_in at h in
    frame_of-frames_in small buffer there lengths i inside
    ∙ ap (λ b. cond b (Some (data_at small buffer lengths i)) None) (clear i inside)
    ∙ sym (get_or-replicate {A = Option (List ℕ)} 256 i None None inside))

-- before the buffer is taken no frame is there, whatever it will hold
pub frames_in-untaken :
    (small : Bool) (old new there lengths : List ℕ) → IsLaidOut small old there lengths → nat_lt 0 (length old) ≡ false →
    frames_in small new there lengths ≡ frames_in small old there lengths
frames_in-untaken small old new there lengths laid untaken =
    let clear : (k : ℕ) → k < 256 → bit_of there k ≡ false = λ k h. unset k (bit_of there k) refl in
    none_in small new there lengths clear ∙ sym (none_in small old there lengths clear)
  where
    unset : (k : ℕ) (b : Bool) → bit_of there k ≡ b → b ≡ false
    unset k false is = refl
    unset k true is = let none : length old ≤ 0 = ltb-false 0 (length old) untaken in absurd (omega (arith, laid.held k is))

-- once the buffer is taken, the store is ready
pub taken-ready : (small : Bool) (new : List ℕ) → length new ≡ 256 * frame_size small → nat_lt 0 (length new) ≡ true
taken-ready true new taken = rw taken refl
taken-ready false new taken = rw taken refl

-- all frames are removed
pub laid-cleared :
    (small : Bool) (buffer there lengths : List ℕ) → IsLaidOut small buffer there lengths → IsLaidOut small buffer (replicate 32 0) lengths
laid-cleared small buffer there lengths laid = record {
  room = laid.room;
  held = λ n is. let clear : false ≡ true = sym (bit_of-zeros 32 n) ∙ is in absurd (cc clear);
  short = laid.short;
}

-- a new store
pub laid-new : (small : Bool) (buffer : List ℕ) → buffer ≡ [] → IsLaidOut small buffer (replicate 32 0) (replicate 256 0)
laid-new small buffer is = record {
  room = λ some. let none : length buffer ≡ 0 = rw is refl in absurd (omega arith);
  held = λ n set. let clear : false ≡ true = sym (bit_of-zeros 32 n) ∙ set in absurd (cc clear);
  short = λ n. rw (zeros 256 n) (omega arith);
}

pub new_is : (small : Bool) (buffer : List ℕ) → buffer ≡ [] →
    ◌≡◌ {A = StoredFrames}
    (record { small = small; frames = frames_in small buffer (replicate 32 0) (replicate 256 0); ready = nat_lt 0 (length buffer) })
    (record { small = small; frames = no_frames; ready = false })
new_is small buffer is =
    let with_frames : List (Option (List ℕ)) → StoredFrames = λ frames. record { small = small; frames = frames; ready = false } in
    rw is (ap with_frames (none_in small [] (replicate 32 0) (replicate 256 0) (λ k h. bit_of-zeros 32 k)))

pub taken_is :
    (small : Bool) (old new there lengths : List ℕ) → IsLaidOut small old there lengths → nat_lt 0 (length old) ≡ false →
    length new ≡ 256 * frame_size small →
    ◌≡◌ {A = StoredFrames} (record { small = small; frames = frames_in small new there lengths; ready = nat_lt 0 (length new) })
    (record { small = small; frames = frames_in small old there lengths; ready = true })
taken_is small old new there lengths laid untaken taken =
    let with_frames : List (Option (List ℕ)) → StoredFrames = λ frames. record { small = small; frames = frames; ready = true } in
    rw (taken-ready small new taken) (ap with_frames (frames_in-untaken small old new there lengths laid untaken))

-- a frame that is there lies in the buffer
pub there_taken :
    (small : Bool) (buffer there lengths : List ℕ) (n : ℕ) → n < 256 → IsLaidOut small buffer there lengths →
    has_frame (frames_in small buffer there lengths) n ≡ true → length buffer ≡ 256 * frame_size small
there_taken small buffer there lengths n below laid has =
    laid.room (laid.held n (sym (has_frame-frames_in small buffer there lengths n below) ∙ has))

pub place_within :
    (small : Bool) (buffer : List ℕ) (n : ℕ) → n < 256 → length buffer ≡ 256 * frame_size small → (n + 1) * frame_size small ≤ length buffer
place_within true buffer n below taken = omega arith
place_within false buffer n below taken = omega arith

length-place :
    (small : Bool) (buffer : List ℕ) (n : ℕ) → n < 256 → length buffer ≡ 256 * frame_size small →
    frame_size small ≤ length (drop (n * frame_size small) buffer)
length-place true buffer n below taken = rw length-drop (omega arith)
length-place false buffer n below taken = rw length-drop (omega arith)

pub place_holds :
    (small : Bool) (buffer : List ℕ) (n count : ℕ) → n < 256 → length buffer ≡ 256 * frame_size small → count ≤ frame_size small →
    count ≡ length (take count (take (frame_size small) (drop (n * frame_size small) buffer)))
place_holds small buffer n count below taken short =
    let place : List ℕ = take (frame_size small) (drop (n * frame_size small) buffer) in
    let size : length (take (frame_size small) (drop (n * frame_size small) buffer)) ≡ frame_size small =
    length-take-le (frame_size small) (drop (n * frame_size small) buffer) (length-place small buffer n below taken) in
    let within : count ≤ length (take (frame_size small) (drop (n * frame_size small) buffer)) = rw size short in
    sym (length-take-le count place within)

pub frame_there :
    (small : Bool) (buffer there lengths : List ℕ) (n : ℕ) → n < 256 → IsLaidOut small buffer there lengths →
    has_frame (frames_in small buffer there lengths) n ≡ true →
    Some (take (slice_index lengths n) (take (frame_size small) (drop (n * frame_size small) buffer))) ≡
    frame_of (frames_in small buffer there lengths) n
frame_there small buffer there lengths n below laid has =
    ap Some (take-take (slice_index lengths n) (frame_size small) (drop (n * frame_size small) buffer) (laid.short n))
    ∙ sym
    (frame_of-frames_in small buffer there lengths n below
    ∙ ap (λ b. cond b (Some (data_at small buffer lengths n)) None) (sym (has_frame-frames_in small buffer there lengths n below) ∙ has))

-- two places of the buffer have no octet in common
disjoint :
    (small : Bool) (i n count size : ℕ) → i ≢ n → count ≤ frame_size small → size ≤ frame_size small →
    (i * frame_size small + count ≤ n * frame_size small) ⊎ (n * frame_size small + size ≤ i * frame_size small)
disjoint true i n count size other short most =
    elim (cases_order i n) [ inl e ↦ absurd (other e) | inr (inl less) ↦ inl (omega arith) | inr (inr more) ↦ inr (omega arith) ]
disjoint false i n count size other short most =
    elim (cases_order i n) [ inl e ↦ absurd (other e) | inr (inl less) ↦ inl (omega arith) | inr (inr more) ↦ inr (omega arith) ]

-- octets that are written to a part of the buffer leave what lies before and after
pub other_octets :
    (old octets : List ℕ) (place from count : ℕ) → place + length octets ≤ length old →
    (from + count ≤ place) ⊎ (place + length octets ≤ from) →
    take count (drop from (put_mid place (length octets) old octets)) ≡ take count (drop from old)
other_octets old octets place from count within apart =
    let start : place ≤ length old = omega arith in
    elim apart [
      | inl before ↦
          sym (drop-take from count (put_mid place (length octets) old octets))
          ∙ ap (drop from) (take-put_mid_below place (length octets) old octets (from + count) before start)
          ∙ drop-take from count old
      | inr after ↦ ap (take count) (drop-put_mid place (length octets) old octets from after start refl)
    ]

pub length-put :
    (old octets : List ℕ) (place : ℕ) → place + length octets ≤ length old → length (put_mid place (length octets) old octets) ≡ length old
length-put old octets place within = simp (length-append, length-take, length-drop) (omega arith)

-- the same of a buffer that takes the written part back
pub others_kept :
    (old part octets copied : List ℕ) (len place k from count : ℕ) → part ≡ old → copied ≡ octets → k ≡ length octets → length old ≡ len →
    place + length octets ≤ length old → (from + count ≤ place) ⊎ (place + length octets ≤ from) →
    take count (drop from (take len (put_mid place k part copied ++ drop (length (put_mid place k part copied)) old))) ≡
    take count (drop from old)
others_kept old part octets copied len place k from count is same size all within apart =
    rw (is, same, size)
    (ap (λ octets. take count (drop from octets))
    (take_at (put_mid place (length octets) old octets) (drop (length (put_mid place (length octets) old octets)) old) len
    (length-put old octets place within ∙ all))
    ∙ other_octets old octets place from count within apart)

-- the data of a frame are at its number, and the others are as before
pub is_kept :
    (frames : List (Option (List ℕ))) (n : ℕ) (octets : List ℕ) → n < length frames → IsKept frames n octets (set frames n (Some octets))
is_kept frames n octets within =
    record {
      here = get_or-set_same frames n (Some octets) None within;
      others = λ k other. get_or-set_other frames n k (Some octets) None other;
    }

-- the data of a frame are written to its place: the buffer, the map and the lengths hold them, and all else as before
pub record Writes (small : Bool) (old new was there lengths : List ℕ) (n : ℕ) (octets : List ℕ) : Type 0 where
  pub below : n < 256
  pub size : length new ≡ length old
  pub places : length lengths ≡ 256
  pub fits : length octets ≤ frame_size small
  pub written : take (length octets) (drop (n * frame_size small) new) ≡ octets
  pub others :
      (from count : ℕ) → (from + count ≤ n * frame_size small) ⊎ (n * frame_size small + length octets ≤ from) →
      take count (drop from new) ≡ take count (drop from old)
  pub bits : (k : ℕ) → bit_of there k ≡ nat_eq k n || bit_of was k

-- the same, with the size of a place by its own name
pub writes_by :
    (small : Bool) (size : ℕ) (old new was there lengths : List ℕ) (n : ℕ) (octets : List ℕ) → size ≡ frame_size small → n < 256 →
    length new ≡ length old → length lengths ≡ 256 → length octets ≤ frame_size small →
    take (length octets) (drop (n * size) new) ≡ octets →
    ((from count : ℕ) → (from + count ≤ n * size) ⊎ (n * size + length octets ≤ from) →
    take count (drop from new) ≡ take count (drop from old)) →
    ((k : ℕ) → bit_of there k ≡ nat_eq k n || bit_of was k) → Writes small old new was there lengths n octets
writes_by small size old new was there lengths n octets is below same places fits written others bits =
    record { below = below; size = same; places = places; fits = fits; written = rw (← is) written; others = rw (← is) others; bits = bits }

pub laid-written :
    (small : Bool) (old new was there lengths : List ℕ) (n : ℕ) (octets : List ℕ) → IsLaidOut small old was lengths →
    nat_lt 0 (length old) ≡ true → Writes small old new was there lengths n octets →
    IsLaidOut small new there (set lengths n (length octets))
laid-written small old new was there lengths n octets laid taken writes = record {
  room = λ some. writes.size ∙ laid.room (ltb-true 0 (length old) taken);
  held = λ k is. omega (arith, ltb-true 0 (length old) taken, writes.size);
  short = λ k.
      elim (cases_eq k n) [
        | inl e ↦ let inside : n < length lengths =
            omega (arith, writes.below, writes.places) in rw (e, get_or-set_same lengths n (length octets) 0 inside) writes.fits
        | inr other ↦ rw (get_or-set_other lengths n k (length octets) 0 other) (laid.short k)
      ];
}

pub frames_in-written :
    (small : Bool) (old new was there lengths : List ℕ) (n : ℕ) (octets : List ℕ) → IsLaidOut small old was lengths →
    Writes small old new was there lengths n octets →
    frames_in small new there (set lengths n (length octets)) ≡ set (frames_in small old was lengths) n (Some octets)
frames_in-written small old new was there lengths n octets laid writes =
    let long : List ℕ = set lengths n (length octets) in
    let before : List (Option (List ℕ)) = frames_in small old was lengths in
    ext_get_or None (frames_in small new there long) (set before n (Some octets))
    (length-frames_in small new there long ∙ sym (length-set before n (Some octets) ∙ length-frames_in small old was lengths))
    (λ i h.
    let inside : i < 256 = rw length-frames_in at h in
    elim (cases_eq i n) [
      | inl e ↦
          let within : n < length before = rw length-frames_in writes.below in
          let number : n < length lengths = omega (arith, writes.below, writes.places) in
          rw e
          (frame_of-frames_in small new there long n writes.below
          ∙ ap (λ b. cond b (Some (data_at small new long n)) None) (writes.bits n ∙ ap (λ b. b || bit_of was n) (eq-eqb n n refl))
          ∙ ap (λ count. Some (take count (drop (n * frame_size small) new))) (get_or-set_same lengths n (length octets) 0 number)
          ∙ ap Some writes.written
          ∙ sym (get_or-set_same before n (Some octets) None within))
      | inr other ↦
          let same : data_at small new long i ≡ data_at small old lengths i =
          ap (λ count. take count (drop (i * frame_size small) new)) (get_or-set_other lengths n i (length octets) 0 other)
          ∙ writes.others (i * frame_size small) (slice_index lengths i)
          (disjoint small i n (slice_index lengths i) (length octets) other (laid.short i) writes.fits) in
          frame_of-frames_in small new there long i inside
          ∙ ap (λ b. cond b (Some (data_at small new long i)) None) (writes.bits i ∙ ap (λ b. b || bit_of was i) (ne_eqb i n other))
          ∙ ap (λ octets. cond (bit_of was i) (Some octets) None) same
          ∙ sym (frame_of-frames_in small old was lengths i inside)
          ∙ sym (get_or-set_other before n i (Some octets) None other)
    ])

pub written_is :
    (small : Bool) (old new was there lengths : List ℕ) (n : ℕ) (octets : List ℕ) → IsLaidOut small old was lengths →
    Writes small old new was there lengths n octets →
    ◌≡◌ {A = StoredFrames}
    (record { small = small; frames = frames_in small new there (set lengths n (length octets)); ready = nat_lt 0 (length new) })
    (record { small = small; frames = set (frames_in small old was lengths) n (Some octets); ready = nat_lt 0 (length old) })
written_is small old new was there lengths n octets laid writes =
    let store : List (Option (List ℕ)) → ℕ → StoredFrames =
    λ frames count. record { small = small; frames = frames; ready = nat_lt 0 count } in
    ap (λ frames. store frames (length new)) (frames_in-written small old new was there lengths n octets laid writes)
    ∙ ap (store (set (frames_in small old was lengths) n (Some octets))) writes.size

pub joined_frames-none : (frames : List (Option (List ℕ))) → joined_frames frames 0 ≡ []
unfolding joined_frames
joined_frames-none frames = refl

pub joined_frames-more :
    (frames : List (Option (List ℕ))) (n : ℕ) → joined_frames frames (n + 1) ≡ joined_frames frames n ++ unwrap_or (frame_of frames n) []
unfolding joined_frames
joined_frames-more frames n =
    let part : ℕ → List ℕ = λ k. unwrap_or (frame_of frames k) [] in
    let joined : List (List ℕ) → List ℕ = flat_map (λ x. x) in
    sym (flat_map-map (λ x. x) part (range_with_len 0 (n + 1)))
    ∙ ap joined (map-range_with_len_more part 0 n n (omega arith))
    ∙ flat_map-append (λ x. x) (map part (range_with_len 0 n)) (part n ∷ [])
    ∙ ap (λ xs. xs ++ (part n ++ [])) (flat_map-map (λ x. x) part (range_with_len 0 n))
    ∙ ap (λ xs. flat_map part (range_with_len 0 n) ++ xs) (append-nil (part n))

-- 256 places of which none has a frame are those of no frame
pub none_there :
    (frames : List (Option (List ℕ))) → length frames ≡ 256 → ((k : ℕ) → k < 256 → has_frame frames k ≡ false) → frames ≡ no_frames
unfolding no_frames
none_there frames size none =
    ext_get_or None frames (replicate 256 None) (size ∙ sym (length-replicate {A = Option (List ℕ)} 256 None))
    (λ i h.
    let inside : i < 256 = rw size at h in
    not_there (frame_of frames i) (none i inside) ∙ sym (get_or-replicate {A = Option (List ℕ)} 256 i None None inside))
  where
    not_there : (frame : Option (List ℕ)) → is_some frame ≡ false → frame ≡ None
    not_there None e = refl
    not_there (Some kept) e = absurd (cc e)

pub no_frames_has : (k : ℕ) → k < 256 → has_frame no_frames k ≡ false
unfolding no_frames
no_frames_has k h = ap is_some (get_or-replicate {A = Option (List ℕ)} 256 k None None h)

pub no_frames_tell :
    (frames : List (Option (List ℕ))) → length frames ≡ 256 → ((n : ℕ) → n < 256 → has_frame frames n ≡ false) ↔ (frames ≡ no_frames)
no_frames_tell frames size = (none_there frames size, λ is k h. ap (λ places. has_frame places k) is ∙ no_frames_has k h)

-- the first frames of a block, from a store that has them
joins_first :
    (frames : List (Option (List ℕ))) (block : List (List ℕ)) (count : ℕ) →
    ((k : ℕ) → k < length block → frame_of frames k ≡ Some (get_or block k [])) → count ≤ length block →
    joined_frames frames count ≡ joined_block (take count block)
joins_first frames block zero there h = joined_frames-none frames
joins_first frames block (suc count) there h =
    let below : count < length block = omega arith in
    let before : count ≤ length block = omega arith in
    let next : suc count ≡ count + 1 = omega arith in
    let frame : List ℕ = get_or block count [] in
    rw next
    (joined_frames-more frames count
    ∙ ap (λ octets. octets ++ unwrap_or (frame_of frames count) []) (joins_first frames block count there before)
    ∙ ap (λ kept. joined_block (take count block) ++ unwrap_or kept []) (there count below)
    ∙ ap (λ octets. joined_block (take count block) ++ octets) (sym (append-nil frame))
    ∙ sym (flat_map-append (λ octets. octets) (take count block) (frame ∷ []))
    ∙ ap joined_block (sym (take_more block count [] below)))

-- a store that has each frame of a block joins to the block's octets
pub store_joins :
    (frames : List (Option (List ℕ))) (block : List (List ℕ)) →
    ((k : ℕ) → k < length block → frame_of frames k ≡ Some (get_or block k [])) → joined_frames frames (length block) ≡ joined_block block
store_joins frames block there =
    let all : length block ≤ length block = omega arith in
    joins_first frames block (length block) there all ∙ ap joined_block (take_all (length block) block all)
