-- The frames of a block that have come: at each number 0 to 255 its frame's data, if there is one.
use Rattle.std.specs.Prelude.{ℕ, ◌≡◌, ◌≢◌, ◌≤◌, ◌<◌, ◌*◌, ◌||◌, ◌↔◌, Bool, true, false, cond, not, List, length, map, take, drop, replicate}
use Rattle.std.specs.Prelude.{slice_index, slice_index_or, slice_set, nat_lt, Option, None, Some, is_some, unwrap_or, Result, Ok, Err, []}
use Rattle.std.specs.List.{flat_map, range_with_len}
use Rattle.raster.specs.Packed.{bit_in}
use Rattle.raster.specs.declared.packed.Order.TheVariants.{LsbFirst}
use Rattle.partial_page.specs.Frames.{frame_size, joined_block}
use Rattle.partial_page.specs.declared.fault.BlockFault.{BlockFault}
use Rattle.partial_page.specs.declared.fault.BlockFault.TheVariants.{NoMemory, TooLong}

-- a store: whether small frames are agreed, at each number 0 to 255 its frame's data, if there are any, and whether the store's memory is
-- taken
pub record StoredFrames : Type 0 where
  pub small : Bool
  pub frames : List (Option (List ℕ))
  pub ready : Bool

-- no number has a frame
unfoldable pub no_frames : List (Option (List ℕ))
no_frames = replicate 256 None

-- the data at a number, if there are any
abbrev pub frame_of : List (Option (List ℕ)) → ℕ → Option (List ℕ)
frame_of frames n = slice_index_or frames n None

-- a store has 256 places, and no data is longer than a frame
pub record IsStore (store : StoredFrames) : Type 0 where
  pub places : length store.frames ≡ 256
  pub short : (n : ℕ) (octets : List ℕ) → frame_of store.frames n ≡ Some octets → length octets ≤ frame_size store.small

-- a number has a frame
abbrev pub has_frame : List (Option (List ℕ)) → ℕ → Bool
has_frame frames n = is_some (frame_of frames n)

-- a number is missing: it has no frame
abbrev pub is_missing : List (Option (List ℕ)) → ℕ → Bool
is_missing frames n = not (has_frame frames n)

-- a number is marked in the map: it is above the last, or is missing
abbrev pub is_marked : List (Option (List ℕ)) → ℕ → ℕ → Bool
is_marked frames last n = nat_lt last n || is_missing frames n

-- the bit at a number, eight an octet, the least significant first
abbrev pub bit_of : List ℕ → ℕ → Bool
bit_of octets n = bit_in LsbFirst octets n

-- the map of 256 bits, the least significant bit of an octet first: 1 if a number has no frame or is above the last
pub record IsMissingMap (frames : List (Option (List ℕ))) (last : ℕ) (octets : List ℕ) : Type 0 where
  pub size : length octets ≡ 32
  pub bits : (n : ℕ) → n < 256 → bit_of octets n ≡ is_marked frames last n

-- the numbers 0 to the last all have a frame
abbrev pub IsWhole : List (Option (List ℕ)) → ℕ → Type 0
IsWhole frames last = (n : ℕ) → n ≤ last → has_frame frames n ≡ true

-- the data of the frames below `count`, one after the other
unfoldable pub joined_frames : List (Option (List ℕ)) → ℕ → List ℕ
joined_frames frames count = flat_map (λ n. unwrap_or (frame_of frames n) []) (range_with_len 0 count)

-- storing a frame sets the data at its number and leaves a store that is ready; it is refused if the data are longer than a frame, and for
-- memory only if the store isn't ready yet; then nothing changes
abbrev pub PutsFrame : StoredFrames → ℕ → List ℕ → StoredFrames → Result (Unit {0}) BlockFault → Type 0
PutsFrame old n octets new (Ok done) =
    (length octets ≤ frame_size old.small) × (new ≡ record old { frames = slice_set old.frames n (Some octets); ready = true })
PutsFrame old n octets new (Err TooLong) = (frame_size old.small < length octets) × (new ≡ old)
PutsFrame old n octets new (Err NoMemory) = (length octets ≤ frame_size old.small) × (old.ready ≡ false) × (new ≡ old)
PutsFrame old n octets new (Err fault) = ⊥

-- the data are at their number, and each other number has what it had
pub record IsKept (old : List (Option (List ℕ))) (n : ℕ) (octets : List ℕ) (new : List (Option (List ℕ))) : Type 0 where
  pub here : frame_of new n ≡ Some octets
  pub others : (k : ℕ) → k ≢ n → frame_of new k ≡ frame_of old k

-- a store lies in memory as one buffer of 256 places of a frame's size, a map of the numbers that have a frame, and the length of each
-- frame's data. These are the data at a number, from the front of its place
abbrev pub data_at : Bool → List ℕ → List ℕ → ℕ → List ℕ
data_at small buffer lengths n = take (slice_index lengths n) (drop (n * frame_size small) buffer)

-- the frames of a store that lies so in memory
unfoldable pub frames_in : Bool → List ℕ → List ℕ → List ℕ → List (Option (List ℕ))
frames_in small buffer there lengths = map (λ n. cond (bit_of there n) (Some (data_at small buffer lengths n)) None) (range_with_len 0 256)

-- the buffer, once taken, has all 256 places; before, no bit of the map is set; no length is above a place
pub record IsLaidOut (small : Bool) (buffer there lengths : List ℕ) : Type 0 where
  pub room : 0 < length buffer → length buffer ≡ 256 * frame_size small
  pub held : (n : ℕ) → bit_of there n ≡ true → 0 < length buffer
  pub short : (n : ℕ) → slice_index lengths n ≤ frame_size small

-- law: a store that has each frame of a block under its number joins to the block's octets
abbrev pub StoreJoinsToBlock : Type 0
StoreJoinsToBlock =
    (frames : List (Option (List ℕ))) (block : List (List ℕ)) →
    ((k : ℕ) → k < length block → frame_of frames k ≡ Some (slice_index_or block k [])) →
    joined_frames frames (length block) ≡ joined_block block

-- law: 256 places are those of an empty store exactly if none of them has a frame
abbrev pub NoFramesHaveNone : Type 0
NoFramesHaveNone =
    (frames : List (Option (List ℕ))) → length frames ≡ 256 → (((n : ℕ) → n < 256 → has_frame frames n ≡ false) ↔ (frames ≡ no_frames))
