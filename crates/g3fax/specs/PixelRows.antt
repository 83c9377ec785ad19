-- What calls answer that pack pixels, and that make pixels of packed rows.
use Rattle.std.specs.Prelude.{ℕ, ◌≡◌, ◌≢◌, ◌<◌, ◌≤◌, ◌+◌, ◌-◌, ◌*◌, ◌/◌, ◌%◌, ◌⊎◌, ◌||◌, Bool, true, false, List, if◌then◌else◌, length, nat_eq, nat_lt, slice_index}
use Rattle.std.specs.Int.{bit_at}
use Rattle.raster.specs.Pages.{max_rows}
use Rattle.raster.specs.Pbm.{stride}
use Rattle.g3fax.specs.Pages.{bad_width, too_many_rows}
use Rattle.g3fax.specs.Statuses.{ok, no_room, bad_choice, bad_length}
use Rattle.g3fax.specs.declared.pixels.Lengths.{Lengths}

-- a bit of a row, of packed rows of this width that follow one another: eight an octet, the first one in the highest bit
abbrev pub packed_bit : ℕ → List ℕ → ℕ → ℕ → ℕ
packed_bit width packed row at = bit_at (slice_index packed (row * stride width + at / 8)) (7 - at % 8)

-- so many rows of pixels, an octet each, and as many packed rows have the same pixels
abbrev pub SamePixels : ℕ → ℕ → List ℕ → List ℕ → Type 0
SamePixels width rows pixels packed =
    (row at : ℕ) → row < rows → at < width → slice_index pixels (row * width + at) ≡ packed_bit width packed row at

-- the bits that fill packed rows are 0
abbrev pub AreFilled : ℕ → ℕ → List ℕ → Type 0
AreFilled width rows packed =
    (row at : ℕ) → row < rows → width ≤ at → at < 8 * stride width → packed_bit width packed row at ≡ 0

-- the pixel at a place before this end; 0 from it on
abbrev pub pixel_before : ℕ → List ℕ → ℕ → ℕ
pixel_before end pixels at = if nat_lt at end then slice_index pixels at else 0

-- how many rows are read
abbrev pub rows_in : Lengths → ℕ
rows_in l = l.octets / l.from

-- how many octets are written
abbrev pub octets_out : Lengths → ℕ
octets_out l = rows_in l * l.to

-- The status: 1 if the width isn't 1 to 2,432; else 105 if the octets aren't whole rows; else 3 for more than 20,000 rows; else 103 if there
-- is too little room; else 104 if an octet isn't allowed; else 0.
abbrev pub rows_status : Lengths → Bool → ℕ
rows_status l allowed =
    if nat_eq l.width 0 || nat_lt 2432 l.width then bad_width else
    (if nat_lt 0 (l.octets % l.from) then bad_length else
    (if nat_lt max_rows (rows_in l) then too_many_rows else
    (if nat_lt l.room (octets_out l) then no_room else
    (if allowed then ok else bad_choice))))

-- how many octets are written is told, also if there is too little room for them, and by no other status
abbrev pub TellsOctets : Lengths → ℕ → ℕ → ℕ → Type 0
TellsOctets l status old new = ((status ≡ ok) ⊎ (status ≡ no_room) → new ≡ octets_out l) × (status ≢ ok → status ≢ no_room → new ≡ old)

-- Rows are written at the beginning of a buffer; what follows there stays. By any status above 0 all of it stays.
pub record WritesRows (l : Lengths) (Makes : List ℕ → Type 0) (old new : List ℕ) (status : ℕ) : Type 0 where
  pub done : status ≡ ok → Makes new
  pub room : length new ≡ length old
  pub rest : (k : ℕ) → octets_out l ≤ k → slice_index new k ≡ slice_index old k
  pub kept : status ≢ ok → new ≡ old

-- Pixels, octets 0 and 1 in whole rows of a width, are packed, and the bits that fill a row are 0. 104 if another octet is there.
pub record PacksPixels (l : Lengths) (pixels old new : List ℕ) (was told status : ℕ) : Type 0 where
  pub writes : WritesRows l (λ packed. SamePixels l.width (rows_in l) pixels packed × AreFilled l.width (rows_in l) packed) old new status
  pub tells : TellsOctets l status was told
  pub allowed : ((k : ℕ) → slice_index pixels k < 2) → status ≡ rows_status l true
  pub refused : (k : ℕ) → 2 ≤ slice_index pixels k → status ≡ rows_status l false

-- Packed rows of a width become pixels, octets 0 and 1; the bits that fill a row are ignored.
pub record UnpacksPixels (l : Lengths) (packed old new : List ℕ) (was told status : ℕ) : Type 0 where
  pub writes : WritesRows l (λ pixels. SamePixels l.width (rows_in l) pixels packed) old new status
  pub tells : TellsOctets l status was told
  pub is : status ≡ rows_status l true

-- whole rows of pixels that are packed
abbrev pub to_pack : ℕ → ℕ → ℕ → Lengths
to_pack width octets room = record { width = width; octets = octets; from = width; to = stride width; room = room }

-- whole packed rows that become pixels
abbrev pub to_unpack : ℕ → ℕ → ℕ → Lengths
to_unpack width octets room = record { width = width; octets = octets; from = stride width; to = width; room = room }
