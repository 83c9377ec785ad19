-- Faults, blocks, stores and maps once more, by the numbers of ITU-T T.30, Annex A: by octets and by places.
use Rattle.std.specs.Prelude.{ℕ, ◌≡◌, ◌≢◌, ◌≤◌, ◌<◌, ◌↔◌, ◌⊎◌, ◌+◌, ◌*◌, Bool, true, false, cond, List, [], ◌∷◌, length, map, nat_le}
use Rattle.std.specs.Prelude.{slice_index, slice_index_or, Contains, Option, None, Some, Ok, Err}
use Rattle.std.specs.List.{range_with_len}
use Rattle.partial_page.specs.Faults.{number_of}
use Rattle.partial_page.specs.Frames.{cut, max_page_frames, CutsPage}
use Rattle.partial_page.specs.Store.{StoredFrames, IsMissingMap, IsWhole, PutsFrame}
use Rattle.partial_page.specs.declared.fault.BlockFault.{BlockFault}
use Rattle.partial_page.specs.declared.fault.BlockFault.TheVariants.{NoMemory, TooLong, PageTooLong}

-- ---- faults

-- the faults of blocks by their numbers in the list of all faults
abbrev pub fault_list : List (ℕ × BlockFault)
fault_list = (9, NoMemory) ∷ (23, TooLong) ∷ (24, PageTooLong) ∷ []

-- law: a fault has its number in the list, 9, 23 or 24, and no other
abbrev pub FaultsHaveNumbers : Type 0
FaultsHaveNumbers = (n : ℕ) (fault : BlockFault) → (number_of fault ≡ n) ↔ Contains fault_list (n, fault)

-- ---- where a page's blocks and frames begin and end

-- the octets of a frame, if frames are small and if not
abbrev pub octets_a_frame : Bool → ℕ
octets_a_frame true = 64
octets_a_frame false = 256

-- the octets of a block of 256 frames, if frames are small and if not
abbrev pub octets_a_block : Bool → ℕ
octets_a_block true = 16384
octets_a_block false = 65536

-- the most blocks of a page, if frames are small and if not
abbrev pub most_blocks : Bool → ℕ
most_blocks true = 512
most_blocks false = 128

-- the blocks are those of the octets: block k begins at octet 65,536 k, and its frame n 256 n octets after that; with small frames these
-- are 16,384 k and 64 n
pub record IsCutByPlaces (small : Bool) (octets : List ℕ) (blocks : List (List (List ℕ))) : Type 0 where
  -- each block begins inside the page, and the last one reaches its end
  pub begins : (k : ℕ) → k < length blocks → k * octets_a_block small < length octets
  pub reaches : length octets ≤ length blocks * octets_a_block small
  -- each frame of a block has a number below 256 and begins inside the page
  pub frames_begin : (k n : ℕ) → k < length blocks → n < length (slice_index_or blocks k []) →
      (n < 256) × (k * octets_a_block small + n * octets_a_frame small < length octets)
  -- a block has 256 frames, or they reach the page's end
  pub frames_reach : (k : ℕ) → k < length blocks → (length (slice_index_or blocks k []) ≡ 256) ⊎
      (length octets ≤ k * octets_a_block small + length (slice_index_or blocks k []) * octets_a_frame small)
  -- each frame has its size
  pub sizes : (k n : ℕ) → k < length blocks → n < length (slice_index_or blocks k []) →
      length (slice_index_or (slice_index_or blocks k []) n []) ≡ octets_a_frame small
  -- the octets of a frame are those of the page from there; after the page's end they are 00
  pub places : (k n i : ℕ) → k < length blocks → n < length (slice_index_or blocks k []) → i < octets_a_frame small →
      slice_index (slice_index_or (slice_index_or blocks k []) n []) i ≡
      slice_index octets (k * octets_a_block small + n * octets_a_frame small + i)

-- law: each block begins 65,536 octets after the one before (16,384 with small frames) and each frame 256 (64), inside the page; it has the
-- page's octets from there, and after the page's end 00
abbrev pub CutsByPlaces : Type 0
CutsByPlaces = (small : Bool) (octets : List ℕ) → IsCutByPlaces small octets (cut small octets)

-- law: a page of up to 128 blocks of 65,536 octets, or 512 of 16,384, is cut unless memory is refused; one octet more is too long
pub record LimitsByBlocks : Type 0 where
  pub taken : (small : Bool) (coded : List ℕ) (blocks : List (List (List ℕ))) → CutsPage small coded (Ok blocks) ↔
      ((length coded ≤ most_blocks small * octets_a_block small) × (blocks ≡ cut small coded))
  pub too_long : (small : Bool) (coded : List ℕ) →
      CutsPage small coded (Err PageTooLong) ↔ (most_blocks small * octets_a_block small < length coded)
  pub memory : (small : Bool) (coded : List ℕ) →
      CutsPage small coded (Err NoMemory) ↔ (length coded ≤ most_blocks small * octets_a_block small)
  pub no_other : (small : Bool) (coded : List ℕ) → ¬ CutsPage small coded (Err TooLong)
  -- the most frames are those of 512 blocks
  pub frames : max_page_frames ≡ most_blocks true * 256

-- ---- which frames a PPR asks for

-- 1 without a frame, 0 with one
abbrev pub if_none : Option (List ℕ) → ℕ
if_none None = 1
if_none (Some octets) = 0

-- 1 for a number up to the last without a frame, and for each number above the last; else 0
abbrev pub asked : List (Option (List ℕ)) → ℕ → ℕ → ℕ
asked frames last n = cond (nat_le n last) (if_none (slice_index_or frames n None)) 1

-- an octet of the map: frame 8 k has its lowest bit, of weight 1, and frame 8 k + 7 its highest, of weight 128
abbrev pub map_octet : List (Option (List ℕ)) → ℕ → ℕ → ℕ
map_octet frames last k =
    asked frames last (8 * k) + 2 * asked frames last (8 * k + 1) + 4 * asked frames last (8 * k + 2) + 8 * asked frames last (8 * k + 3) +
    16 * asked frames last (8 * k + 4) + 32 * asked frames last (8 * k + 5) + 64 * asked frames last (8 * k + 6) +
    128 * asked frames last (8 * k + 7)

-- the map of a PPR as its 32 octets
abbrev pub map_octets : List (Option (List ℕ)) → ℕ → List ℕ
map_octets frames last = map (map_octet frames last) (range_with_len 0 32)

-- law: octet k of the map is the sum of the weights 1, 2, 4 to 128 of frames 8 k to 8 k + 7, each counted if it is missing or above the
-- last; no other octets are the map; frames are whole if none up to the last is asked for
pub record MapsByOctets : Type 0 where
  pub octets : (frames : List (Option (List ℕ))) (last : ℕ) → IsMissingMap frames last (map_octets frames last)
  pub alone : (frames : List (Option (List ℕ))) (last : ℕ) (octets : List ℕ) → ((k : ℕ) → slice_index octets k < 256) →
      IsMissingMap frames last octets → octets ≡ map_octets frames last
  -- the frames up to the last are all there exactly if none of them is asked for
  pub whole : (frames : List (Option (List ℕ))) (last : ℕ) → IsWhole frames last ↔ ((n : ℕ) → n ≤ last → asked frames last n ≡ 0)

-- ---- what a frame changes

-- the store has taken the frame: it is at its number, each other number has what it had, and all else is as it was but that the memory is
-- taken
pub record HasTaken (old : StoredFrames) (n : ℕ) (octets : List ℕ) (new : StoredFrames) : Type 0 where
  pub fits : length octets ≤ octets_a_frame old.small
  pub size : new.small ≡ old.small
  pub ready : new.ready ≡ true
  pub places : length new.frames ≡ length old.frames
  pub here : slice_index_or new.frames n None ≡ Some octets
  pub others : (k : ℕ) → k ≢ n → slice_index_or new.frames k None ≡ slice_index_or old.frames k None

-- law: a frame that is taken is at its number, each other number has what it had, and the memory is taken; a frame is refused exactly for
-- too many octets, or for memory as long as none is taken. A frame that comes again takes no other frame's place
pub record PutsByPlaces : Type 0 where
  pub taken : (old new : StoredFrames) (n : ℕ) (octets : List ℕ) → n < length old.frames →
      PutsFrame old n octets new (Ok tt) ↔ HasTaken old n octets new
  pub too_long : (old new : StoredFrames) (n : ℕ) (octets : List ℕ) →
      PutsFrame old n octets new (Err TooLong) ↔ ((octets_a_frame old.small < length octets) × (new ≡ old))
  pub memory : (old new : StoredFrames) (n : ℕ) (octets : List ℕ) →
      PutsFrame old n octets new (Err NoMemory) ↔
      ((length octets ≤ octets_a_frame old.small) × (old.ready ≡ false) × (new ≡ old))
  pub no_other : (old new : StoredFrames) (n : ℕ) (octets : List ℕ) → ¬ PutsFrame old n octets new (Err PageTooLong)
