-- A coded page as blocks of frames (ITU-T T.30, Annex A).
use Rattle.std.specs.Prelude.{ℕ, ◌≡◌, ◌≤◌, ◌<◌, ◌+◌, ◌-◌, ◌*◌, ◌++◌, ◌∷◌, [], suc, zero, Bool, true, false, List, length, take, drop}
use Rattle.std.specs.Prelude.{replicate, All, slice_index_or, Result, Ok, Err}
use Rattle.std.specs.Int.{div_ceil}
use Rattle.std.specs.List.{flat_map}
use Rattle.partial_page.specs.declared.fault.BlockFault.{BlockFault}
use Rattle.partial_page.specs.declared.fault.BlockFault.TheVariants.{NoMemory, PageTooLong}

-- the greatest number of octets of a coded page: 8,388,608
abbrev pub max_page_octets : ℕ
max_page_octets = 8388608

-- the greatest number of frames of a coded page: 131,072, of 64 octets each
abbrev pub max_page_frames : ℕ
max_page_frames = 131072

-- the octets of a frame: 64 if small frames are agreed, else 256
abbrev pub frame_size : Bool → ℕ
frame_size true = 64
frame_size false = 256

-- how many frames a number of octets needs
abbrev pub frames_for : Bool → ℕ → ℕ
frames_for small octets = div_ceil octets (frame_size small)

-- the first pieces of a list, a number of them, each of one length; the last may be shorter
unfoldable pub pieces : {X : Type 0} → ℕ → ℕ → List X → List (List X)
pieces size zero xs = []
pieces size (suc count) xs = take size xs ∷ pieces size count (drop size xs)

-- octets in frames of one size, 256 frames to a block; the last block has the rest
unfoldable pub blocks_of : ℕ → ℕ → List ℕ → List (List (List ℕ))
blocks_of size count octets = pieces 256 (div_ceil count 256) (pieces size count octets)

-- the octets, filled with octets 00 to whole frames
abbrev pub filled : Bool → List ℕ → List ℕ
filled small octets = octets ++ replicate (frames_for small (length octets) * frame_size small - length octets) 0

-- a coded page as a list of blocks: its octets, filled with octets 00 to whole frames, in frames of the agreed size, 256 to a block and the
-- rest in the last (T.30, Annex A)
abbrev pub cut : Bool → List ℕ → List (List (List ℕ))
cut small octets = blocks_of (frame_size small) (frames_for small (length octets)) (filled small octets)

-- the frames of a block, one after the other
abbrev pub joined_block : List (List ℕ) → List ℕ
joined_block block = flat_map (λ frame. frame) block

-- the frames of all blocks, one after the other
abbrev pub joined : List (List (List ℕ)) → List ℕ
joined blocks = joined_block (flat_map (λ block. block) blocks)

-- a block has 1 to 256 frames, each of exactly the agreed size
pub record IsBlock (size : ℕ) (block : List (List ℕ)) : Type 0 where
  pub some : 0 < length block
  pub few : length block ≤ 256
  pub sizes : All (λ frame. length frame ≡ size) block

-- the blocks have full frames, 256 in each block but the last; joined they are the octets and then fewer octets 00 than a frame has
pub record IsCut (size : ℕ) (octets : List ℕ) (blocks : List (List (List ℕ))) : Type 0 where
  pub each : (k : ℕ) → k < length blocks → IsBlock size (slice_index_or blocks k [])
  pub full : (k : ℕ) → k + 1 < length blocks → length (slice_index_or blocks k []) ≡ 256
  pub octets_then_zeros : (padding : ℕ) × (padding < size) × (joined blocks ≡ octets ++ replicate padding 0)

-- what cutting a coded page returns: the blocks of at most 8,388,608 octets, or `PageTooLong`, exactly if there are more; memory may be
-- refused
abbrev pub CutsPage : Bool → List ℕ → Result (List (List (List ℕ))) BlockFault → Type 0
CutsPage small coded (Ok blocks) = (length coded ≤ max_page_octets) × (blocks ≡ cut small coded)
CutsPage small coded (Err PageTooLong) = max_page_octets < length coded
CutsPage small coded (Err NoMemory) = length coded ≤ max_page_octets
CutsPage small coded (Err fault) = ⊥

-- law: octets are cut into blocks of full frames, which joined are the octets and the filling
abbrev pub CutIsFullFrames : Type 0
CutIsFullFrames = (small : Bool) (octets : List ℕ) → IsCut (frame_size small) octets (cut small octets)

-- law: since 8,388,608 is a multiple of both frame sizes, every beginning of the joined frames of a page within that limit is within it
abbrev pub JoinedPageIsWithinLimit : Type 0
JoinedPageIsWithinLimit =
    (small : Bool) (octets front rest : List ℕ) → length octets ≤ max_page_octets → joined (cut small octets) ≡ front ++ rest →
    length front ≤ max_page_octets

-- law: octets that aren't empty have a block
abbrev pub OctetsHaveABlock : Type 0
OctetsHaveABlock = (small : Bool) (octets : List ℕ) → 0 < length octets → 0 < length (cut small octets)

-- law: the joined frames of a page are those of each block in turn
abbrev pub PageJoinsByBlocks : Type 0
PageJoinsByBlocks = (blocks : List (List (List ℕ))) → joined blocks ≡ flat_map joined_block blocks
