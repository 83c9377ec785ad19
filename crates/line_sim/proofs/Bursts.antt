-- What a whole burst leaves in the store of an answerer that has all its places.
use Rattle.std.proofs.Common.{◌≡◌, ℕ, zero, suc, ◌+◌, ◌≤◌, ◌<◌, true, List, [], ◌∷◌, length, Some, None, refl, subst, ◌∙◌, arith}
use Rattle.std.specs.Prelude.{slice_get, slice_set}
use Rattle.std.proofs.lemmas.List.{length-set, get_or-set_same, get_or-set_other}
use Rattle.std.proofs.lemmas.Bool.{agree_below_at}
use Rattle.partial_page.specs.Store.{no_frames, frame_of, bit_of}
use Rattle.stations.specs.CallerStep.{all_frames}
use Rattle.partial_page.specs.Assembling.{Frames}
use Rattle.line_sim.specs.LineFacts.{HoldsAll}
use Rattle.line_sim.proofs.Stores.{length_none}

-- frames kept under their numbers, one after the other
abbrev pub put_all : Frames → ℕ → List (List ℕ) → Frames
put_all store number [] = store
put_all store number (octets ∷ frames) = put_all (slice_set store number (Some octets)) (suc number) frames

put_all_below :
    (frames : List (List ℕ)) (store : Frames) (number n : ℕ) → n < number → frame_of (put_all store number frames) n ≡ frame_of store n
put_all_below [] store number n h = refl
put_all_below (octets ∷ frames) store number n h =
    put_all_below frames (slice_set store number (Some octets)) (suc number) n (omega arith)
    ∙ get_or-set_other store number n (Some octets) None (λ e. absurd (omega (arith, e, h)))

put_all_at :
    (frames : List (List ℕ)) (store : Frames) (number n : ℕ) (octets : List ℕ) → number + length frames ≤ length store →
    slice_get frames n ≡ Some octets → frame_of (put_all store number frames) (n + number) ≡ Some octets
put_all_at [] store number n octets fits e = cc
put_all_at (first ∷ frames) store number zero octets fits e =
    let same : number ≡ zero + number = omega arith in
    subst (λ k. frame_of (put_all (slice_set store number (Some first)) (suc number) frames) k ≡ Some octets) same
    (put_all_below frames (slice_set store number (Some first)) (suc number) number (omega arith) ∙
    (get_or-set_same store number (Some first) None (omega (arith, fits)) ∙ e))
put_all_at (first ∷ frames) store number (suc n) octets fits e =
    let same : n + suc number ≡ suc n + number = omega arith in
    let size : length (slice_set store number (Some first)) ≡ length store = length-set store number (Some first) in
    subst (λ k. frame_of (put_all (slice_set store number (Some first)) (suc number) frames) k ≡ Some octets) same
    (put_all_at frames (slice_set store number (Some first)) (suc number) n octets (omega (arith, fits, size)) e)

-- all frames of a block are open after its burst
pub all_put : (frames : List (List ℕ)) → length frames ≤ 256 → HoldsAll (put_all no_frames 0 frames) frames
all_put frames few n octets e =
    let same : n + 0 ≡ n = omega arith in
    subst (λ k. frame_of (put_all no_frames 0 frames) k ≡ Some octets) same
    (put_all_at frames no_frames 0 n octets (omega (arith, few, length_none)) e)

-- a first burst has every frame
pub every_frame : (number : ℕ) → number < 256 → bit_of all_frames number ≡ true
unfolding all_frames
every_frame number h = agree_below_at (λ n. bit_of all_frames n) (λ n. true) 256 number refl h
