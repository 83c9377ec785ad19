-- A coded page cut into pieces: frames, and blocks of frames.
use Rattle.std.proofs.Common.{◌≡◌, ℕ, ◌+◌, ◌-◌, ◌*◌, ◌<◌, ◌≤◌, ◌++◌, Bool, true, false, List, [], ◌∷◌, length, take, drop, replicate}
use Rattle.std.proofs.Common.{get_or, suc, zero, refl, sym, ap, ◌∙◌, arith, length-append}
use Rattle.std.specs.Prelude.{All, min}
use Rattle.std.specs.Int.{div_ceil}
use Rattle.std.specs.List.{flat_map}
use Rattle.std.proofs.lemmas.List.{length-take, length-drop, length-replicate, length-take-le, take_all, drop-drop, get_or-take}
use Rattle.std.proofs.lemmas.List.{get_or-drop}
use Rattle.std.proofs.lemmas.List.Elements.{All-nil, All-cons, All-take, All-drop}
use Rattle.partial_page.specs.Frames.{frame_size, frames_for, pieces, blocks_of, filled, cut, joined_block, joined, IsCut}
use Rattle.std.proofs.lemmas.List.Concat.{flat_map-append}

pub length-pieces : {X : Type 0} → (size count : ℕ) (xs : List X) → length (pieces size count xs) ≡ count
unfolding pieces
length-pieces size zero xs = refl
length-pieces size (suc count) xs = ap suc (length-pieces size count (drop size xs))

-- the piece at an index
pub get_or-pieces :
    {X : Type 0} → (size count : ℕ) (xs : List X) (i : ℕ) (d : List X) → i < count →
    get_or (pieces size count xs) i d ≡ take size (drop (i * size) xs)
unfolding pieces
get_or-pieces size zero xs i d h = absurd (omega arith)
get_or-pieces size (suc count) xs zero d h = let e : 0 ≡ 0 * size = omega arith in ap (λ n. take size (drop n xs)) e
get_or-pieces size (suc count) xs (suc i) d h =
    let less : i < count = omega arith in
    let places : size + i * size ≡ suc i * size = omega arith in
    get_or-pieces size count (drop size xs) i d less
    ∙ ap (take size) (drop-drop (i * size) size xs)
    ∙ ap (λ n. take size (drop n xs)) places

take-nil : {X : Type 0} → (n : ℕ) → take {A = X} n [] ≡ []
take-nil zero = refl
take-nil (suc n) = refl

take_two : {X : Type 0} → (a b : ℕ) (xs : List X) → take a xs ++ take b (drop a xs) ≡ take (a + b) xs
take_two zero b xs = let e : b ≡ 0 + b = omega arith in ap (λ n. take n xs) e
take_two (suc a) b [] = simp (take-nil) refl
take_two (suc a) b (x ∷ xs) =
    let e : suc (a + b) ≡ suc a + b = omega arith in ap (λ ys. x ∷ ys) (take_two a b xs) ∙ ap (λ n. take n (x ∷ xs)) e

-- the pieces joined are the front that they were cut from
pub join-pieces : {X : Type 0} → (size count : ℕ) (xs : List X) → flat_map (λ x. x) (pieces size count xs) ≡ take (count * size) xs
unfolding pieces
join-pieces size zero xs = ap (λ n. take n xs) (let e : 0 ≡ 0 * size = omega arith in e)
join-pieces size (suc count) xs =
    let e : size + count * size ≡ suc count * size = omega arith in
    ap (λ ys. take size xs ++ ys) (join-pieces size count (drop size xs))
    ∙ take_two size (count * size) xs
    ∙ ap (λ n. take n xs) e

pub length-filled : (small : Bool) (octets : List ℕ) → length (filled small octets) ≡ frames_for small (length octets) * frame_size small
length-filled true octets = simp (length-append, length-replicate) (omega arith)
length-filled false octets = simp (length-append, length-replicate) (omega arith)

-- pieces of a list that is long enough have their full length
pub All-pieces :
    {X : Type 0} → (size count : ℕ) (xs : List X) → length xs ≡ count * size → All (λ piece. length piece ≡ size) (pieces size count xs)
unfolding pieces
All-pieces size zero xs e = All-nil (λ piece. length piece ≡ size)
All-pieces size (suc count) xs e =
    let whole : suc count * size ≡ size + count * size = omega arith in
    let here : size ≤ length xs = omega arith in
    let rest : length (drop size xs) ≡ count * size = simp length-drop (omega arith) in
    All-cons (λ piece. length piece ≡ size) (take size xs) _ (length-take-le size xs here) (All-pieces size count (drop size xs) rest)

pub length-blocks : (size count : ℕ) (octets : List ℕ) → length (blocks_of size count octets) ≡ div_ceil count 256
unfolding blocks_of
length-blocks size count octets = length-pieces 256 _ _

pub get_or-blocks :
    (size count : ℕ) (octets : List ℕ) (k : ℕ) (d : List (List ℕ)) → k < div_ceil count 256 →
    get_or (blocks_of size count octets) k d ≡ take 256 (drop (k * 256) (pieces size count octets))
unfolding blocks_of
get_or-blocks size count octets k d h = get_or-pieces 256 _ _ k d h

pub length-block :
    (size count : ℕ) (octets : List ℕ) (k : ℕ) (d : List (List ℕ)) → k < div_ceil count 256 →
    length (get_or (blocks_of size count octets) k d) ≡ min 256 (count - k * 256)
length-block size count octets k d h =
    ap length (get_or-blocks size count octets k d h)
    ∙ length-take 256 (drop (k * 256) (pieces size count octets))
    ∙ ap (λ n. min 256 n) (length-drop (k * 256) (pieces size count octets) ∙ ap (λ n. n - k * 256) (length-pieces size count octets))

-- the frame at its number in its block is the one at its place among all frames
pub get_or-frame :
    (size count : ℕ) (octets : List ℕ) (k n : ℕ) → k < div_ceil count 256 → n < 256 → k * 256 + n < count →
    get_or (get_or (blocks_of size count octets) k []) n [] ≡ take size (drop ((k * 256 + n) * size) octets)
get_or-frame size count octets k n block below within =
    ap (λ frames. get_or frames n []) (get_or-blocks size count octets k [] block)
    ∙ get_or-take 256 (drop (k * 256) (pieces size count octets)) n [] below
    ∙ get_or-drop (k * 256) (pieces size count octets) n []
    ∙ get_or-pieces size count octets (k * 256 + n) [] within

pub place_fits : (small : Bool) (place count : ℕ) → place < count → (place + 1) * frame_size small ≤ count * frame_size small
place_fits true place count h = omega arith
place_fits false place count h = omega arith

pub ruleset views = (length-blocks, length-block, get_or-frame, place_fits)

-- the frames of all blocks joined are the octets that they were cut from
pub joined-blocks : (size count : ℕ) (octets : List ℕ) → length octets ≡ count * size → joined (blocks_of size count octets) ≡ octets
unfolding blocks_of
joined-blocks size count octets e =
    let frames : List (List ℕ) = pieces size count octets in
    let covered : length (pieces size count octets) ≤ div_ceil count 256 * 256 = rw length-pieces (omega arith) in
    let all : length octets ≤ count * size = omega arith in
    ap (λ xs. flat_map (λ frame. frame) xs) (join-pieces 256 (div_ceil count 256) frames ∙ take_all _ frames covered)
    ∙ join-pieces size count octets
    ∙ take_all _ octets all

pub joined-cut : (small : Bool) (octets : List ℕ) → joined (cut small octets) ≡ filled small octets
joined-cut small octets =
    joined-blocks (frame_size small) (frames_for small (length octets)) (filled small octets) (length-filled small octets)

padding_below : (small : Bool) (n : ℕ) → frames_for small n * frame_size small - n < frame_size small
padding_below true n = omega arith
padding_below false n = omega arith

-- the page limit is a multiple of both frame sizes
filled_within : (small : Bool) (n : ℕ) → n ≤ 8388608 → frames_for small n * frame_size small ≤ 8388608
filled_within true n h = omega arith
filled_within false n h = omega arith

pub cut_is_full_frames : (small : Bool) (octets : List ℕ) → IsCut (frame_size small) octets (cut small octets)
cut_is_full_frames small octets =
    let count : ℕ = frames_for small (length octets) in
    let size : ℕ = frame_size small in
    let inside : List ℕ = filled small octets in
    record {
      each = λ k h.
          let block : k < div_ceil count 256 = rw length-blocks at h in
          let long : length (get_or (cut small octets) k []) ≡ min 256 (count - k * 256) = length-block size count inside k [] block in
          record {
            some = omega arith;
            few = omega arith;
            sizes = rw (get_or-blocks size count inside k [] block)
                (All-take (λ frame. length frame ≡ size) 256 _
                (All-drop (λ frame. length frame ≡ size) (k * 256) _ (All-pieces size count inside (length-filled small octets))));
          };
      full = λ k h.
          let block : k + 1 < div_ceil count 256 = rw length-blocks at h in
          let here : k < div_ceil count 256 = omega arith in
          length-block size count inside k [] here ∙ (omega arith);
      octets_then_zeros = (count * size - length octets, padding_below small (length octets), joined-cut small octets);
    }

pub joined_within_limit :
    (small : Bool) (octets front rest : List ℕ) → length octets ≤ 8388608 → joined (cut small octets) ≡ front ++ rest →
    length front ≤ 8388608
joined_within_limit small octets front rest page is =
    let whole : length front + length rest ≡ frames_for small (length octets) * frame_size small =
    sym (length-append front rest) ∙ ap length (sym is ∙ joined-cut small octets) ∙ length-filled small octets in
    let limit : frames_for small (length octets) * frame_size small ≤ 8388608 = filled_within small (length octets) page in
    omega arith

pub octets_have_block : (small : Bool) (octets : List ℕ) → 0 < length octets → 0 < length (cut small octets)
octets_have_block true octets some = rw length-blocks (omega arith)
octets_have_block false octets some = rw length-blocks (omega arith)

-- the frames of all blocks are those of each block in turn
pub joined_by_blocks : (blocks : List (List (List ℕ))) → joined blocks ≡ flat_map joined_block blocks
joined_by_blocks [] = refl
joined_by_blocks (block ∷ blocks) =
    flat_map-append (λ frame. frame) block (flat_map (λ block. block) blocks)
    ∙ ap (λ octets. joined_block block ++ octets) (joined_by_blocks blocks)

covered : (small : Bool) (n : ℕ) → n ≤ frames_for small n * frame_size small
covered true n = omega arith
covered false n = omega arith

-- octets that were filled to whole frames, with each number by its own name
pub filled_is_cut :
    (small : Bool) (octets new : List ℕ) (len long count size : ℕ) → len ≡ length octets → long ≡ length octets → size ≡ frame_size small →
    count ≡ div_ceil long size → new ≡ take (count * size) octets ++ replicate (count * size - len) 0 →
    IsCut (frame_size small) octets (blocks_of (frame_size small) count new)
filled_is_cut small octets new len long count size all same is frames fill =
    rw (fill, frames, is, all, same)
    (rw (take_all (frames_for small (length octets) * frame_size small) octets (covered small (length octets)))
    (cut_is_full_frames small octets))
