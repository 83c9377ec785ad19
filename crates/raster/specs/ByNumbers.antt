-- Limits, faults and octets of the PBM format once more, by number and by written-out files.
use Rattle.std.specs.Prelude.{ℕ, ◌≡◌, ◌<◌, ◌⊎◌, ◌↔◌, ◌++◌, ◌∷◌, [], true, false, List, Contains, codes, Ok}
use Rattle.raster.specs.declared.fault.RasterFault.{RasterFault}
use Rattle.raster.specs.declared.fault.RasterFault.TheVariants.{BadWidth, WrongRowWidth, TooManyRows, NoRows, BadHeader, ShortData, NoPages}
use Rattle.raster.specs.declared.fault.RasterFault.TheVariants.{Io, NoMemory}
use Rattle.raster.specs.declared.row.Color.TheVariants.{White, Black}
use Rattle.raster.specs.Faults.{number_of}
use Rattle.raster.specs.Pages.{max_rows}
use Rattle.raster.specs.Pbm.{is_white, ends_line, IsHeight, read_images}
use Rattle.raster.specs.Pixels.{IsWidth}

-- the faults by their numbers in the list of all faults, 1 to 9
abbrev pub fault_list : List (ℕ × RasterFault)
fault_list =
    (1, BadWidth) ∷ (2, WrongRowWidth) ∷ (3, TooManyRows) ∷ (4, NoRows) ∷ (5, BadHeader) ∷ (6, ShortData) ∷ (7, NoPages) ∷ (8, Io) ∷
    (9, NoMemory) ∷ []

-- law: a fault has the number 1 to 9 that the list gives it, and no other
abbrev pub FaultsHaveNumbers : Type 0
FaultsHaveNumbers = (n : ℕ) (fault : RasterFault) → (number_of fault ≡ n) ↔ Contains fault_list (n, fault)

-- law: widths are the numbers above 0 and below 2,433, heights those above 0 and below 20,001; a page has at most 20,000 rows
pub record LimitsByNumber : Type 0 where
  pub widths : (n : ℕ) → IsWidth n ↔ ((0 < n) × (n < 2433))
  pub heights : (n : ℕ) → IsHeight n ↔ ((0 < n) × (n < 20001))
  pub rows : max_rows ≡ 20000

-- law: octets of the PBM format by number, and three files that were written by hand, with their pages
pub record PbmByOctets : Type 0 where
  -- TAB, LF, VT, FF, CR (9 to 13) and space (32) are whitespace, and no other octet is; LF (10) and CR (13) end a comment
  pub white : (octet : ℕ) → (is_white octet ≡ true) ↔
      ((octet ≡ 9) ⊎ (octet ≡ 10) ⊎ (octet ≡ 11) ⊎ (octet ≡ 12) ⊎ (octet ≡ 13) ⊎ (octet ≡ 32))
  pub line_ends : (octet : ℕ) → (ends_line octet ≡ true) ↔ ((octet ≡ 10) ⊎ (octet ≡ 13))
  -- a black pixel and a white one
  pub two_pixels : read_images true (codes "P4\n2 1\n" ++ 0x80 ∷ []) ≡
      Ok (record { width = 2; fine = true; rows = (Black ∷ White ∷ []) ∷ [] } ∷ [])
  -- a row of eight pixels has one octet, and an image of one pixel follows
  pub two_images : read_images false (codes "P4 8 1 " ++ 0x0F ∷ codes "P4 1 1 " ++ 0x7F ∷ []) ≡
      Ok (
      record { width = 8; fine = false; rows = (White ∷ White ∷ White ∷ White ∷ Black ∷ Black ∷ Black ∷ Black ∷ []) ∷ [] } ∷
      record { width = 1; fine = false; rows = (White ∷ []) ∷ [] } ∷ []
      )
  -- a comment, zeros in front of numbers, nine pixels in two octets
  pub nine_pixels : read_images true (codes "P4#c\n 009 02\r" ++ 0x80 ∷ 0x80 ∷ 0x00 ∷ 0x7F ∷ []) ≡
      Ok (
      record {
        width = 9;
        fine = true;
        rows =
            (Black ∷ White ∷ White ∷ White ∷ White ∷ White ∷ White ∷ White ∷ Black ∷ []) ∷
            (White ∷ White ∷ White ∷ White ∷ White ∷ White ∷ White ∷ White ∷ White ∷ []) ∷ [];
      } ∷ []
      )
