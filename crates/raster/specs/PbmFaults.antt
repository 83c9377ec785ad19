-- The first fault of octets that are no images of Netpbm's raw PBM format, said of the octets in the format's own words.
-- A part of an image is what the grammar says that it is; how octets are read doesn't matter here.
use Rattle.std.specs.Prelude.{ℕ, ◌≡◌, ◌≢◌, ◌<◌, ◌*◌, Bool, true, false, ◌⊎◌, ◌↔◌, List, [], ◌∷◌, ◌++◌, length, codes, Result, Ok, Err}
use Rattle.std.specs.List.{AllByRecursion, concat}
use Rattle.raster.specs.declared.fault.RasterFault.{RasterFault}
use Rattle.raster.specs.declared.fault.RasterFault.TheVariants.{BadWidth, TooManyRows, NoRows, BadHeader, ShortData, NoPages, Io}
use Rattle.raster.specs.declared.fault.RasterFault.TheVariants.{NoMemory}
use Rattle.raster.specs.declared.row.Color.{Color}
use Rattle.raster.specs.Pages.{PagePixels, max_rows}
use Rattle.raster.specs.Pbm.{is_white, is_digit, IsSpace, IsNumber, IsHeight, IsImage, AreImages, stride, read_images}
use Rattle.raster.specs.Pixels.{IsWidth}

-- ---- a header, as far as it goes

-- the next octet isn't of this kind, or there is none
abbrev pub NoneNext : (ℕ → Bool) → List ℕ → Type 0
NoneNext kind [] = Unit {0}
NoneNext kind (octet ∷ octets) = kind octet ≡ false

-- whitespace and a number begin the octets, and no digit comes after it; the rest follows
pub record SpacedNumber (value : ℕ) (octets rest : List ℕ) : Type 0 where
  pub space : List ℕ
  pub digits : List ℕ
  pub spelled : octets ≡ space ++ (digits ++ rest)
  pub space_is : IsSpace space
  pub number_is : IsNumber value digits
  pub ended : NoneNext is_digit rest

-- no whitespace and number begin the octets
abbrev pub NoSpacedNumber : List ℕ → Type 0
NoSpacedNumber octets = (value : ℕ) (rest : List ℕ) → ¬ SpacedNumber value octets rest

-- P4, and a width of any size; the rest follows
abbrev pub HasWidth : ℕ → List ℕ → List ℕ → Type 0
HasWidth width octets rest = (after : List ℕ) × (octets ≡ codes "P4" ++ after) × SpacedNumber width after rest

-- P4, a width that an image may have, and a height of any size; the rest follows
abbrev pub HasHeight : ℕ → ℕ → List ℕ → List ℕ → Type 0
HasHeight width height octets rest = (after : List ℕ) × HasWidth width octets after × IsWidth width × SpacedNumber height after rest

-- ---- the image that breaks off

-- A header that isn't whole, with no number to blame: there are octets, and they don't begin with P4; no whitespace and number follow P4,
-- or a width that an image may have; or no whitespace octet follows a height that an image may have.
pub data HasBadHeader (octets : List ℕ) : Type 0 where
  no_magic : 0 < length octets → ((after : List ℕ) → octets ≢ codes "P4" ++ after) → HasBadHeader octets
  no_width : (after : List ℕ) → octets ≡ codes "P4" ++ after → NoSpacedNumber after → HasBadHeader octets
  no_height : (width : ℕ) (after : List ℕ) → HasWidth width octets after → IsWidth width → NoSpacedNumber after → HasBadHeader octets
  no_white :
      (width height : ℕ) (after : List ℕ) → HasHeight width height octets after → IsHeight height → NoneNext is_white after
      → HasBadHeader octets

-- The image that begins here has this fault. A number is checked where its digits end, with no digit after them.
abbrev pub BreaksOff : RasterFault → List ℕ → Type 0
-- after P4 and whitespace, its width is 0 or above 2,432
BreaksOff BadWidth octets = (width : ℕ) × (rest : List ℕ) × HasWidth width octets rest × (¬ IsWidth width)
-- after a width that an image may have, its height is 0
BreaksOff NoRows octets = (width : ℕ) × (rest : List ℕ) × HasHeight width 0 octets rest
-- after a width that an image may have, its height is above 20,000
BreaksOff TooManyRows octets = (width : ℕ) × (height : ℕ) × (rest : List ℕ) × HasHeight width height octets rest × (max_rows < height)
-- its header is whole, and fewer octets follow than its rows have
BreaksOff ShortData octets = (width : ℕ) × (height : ℕ) × (white : ℕ) × (raster : List ℕ) × HasHeight width height octets (white ∷ raster)
    × IsHeight height × (is_white white ≡ true) × (length raster < height * stride width)
BreaksOff BadHeader octets = HasBadHeader octets
BreaksOff fault octets = ⊥

-- ---- the first fault

-- octets that are one image
abbrev pub IsOneImage : List ℕ → Type 0
IsOneImage octets = (width : ℕ) × (rows : List (List Color)) × IsImage width rows octets

-- whole images, none or more, and then one that has this fault
pub record AfterImages (fault : RasterFault) (octets : List ℕ) : Type 0 where
  pub images : List (List ℕ)
  pub rest : List ℕ
  pub spelled : octets ≡ concat images ++ rest
  pub each : AllByRecursion IsOneImage images
  pub breaks : BreaksOff fault rest

-- the first fault of octets: NoPages if there are none, else the fault of the image that breaks off after whole images, none or more
abbrev pub IsFirstFault : RasterFault → List ℕ → Type 0
IsFirstFault NoPages octets = octets ≡ []
IsFirstFault fault octets = AfterImages fault octets

-- A result of reading octets, apart from Io and NoMemory: Ok only if the octets have no fault, else their first fault.
abbrev pub AnswersFirstFault : {X : Type 0} → List ℕ → Result X RasterFault → Type 0
AnswersFirstFault octets (Ok found) = (fault : RasterFault) → ¬ IsFirstFault fault octets
AnswersFirstFault octets (Err Io) = Unit {0}
AnswersFirstFault octets (Err NoMemory) = Unit {0}
AnswersFirstFault octets (Err fault) = IsFirstFault fault octets

-- the law of faults: octets are images or have one first fault, and reading names it
pub record NamesFirstFault : Type 0 where
  -- reading returns a fault exactly if it is the first one
  pub named : (fine : Bool) (octets : List ℕ) (fault : RasterFault) → (read_images fine octets ≡ Err fault) ↔ IsFirstFault fault octets
  -- octets are images or have a first fault
  pub some : (fine : Bool) (octets : List ℕ)
      → ((pages : List PagePixels) × AreImages fine octets pages) ⊎ ((fault : RasterFault) × IsFirstFault fault octets)
  -- images have no fault
  pub none : (fine : Bool) (octets : List ℕ) (pages : List PagePixels) (fault : RasterFault) → AreImages fine octets pages
      → ¬ IsFirstFault fault octets
  -- octets don't have two first faults
  pub one : (octets : List ℕ) (a b : RasterFault) → IsFirstFault a octets → IsFirstFault b octets → a ≡ b

-- nineteen written-out files and the first fault of each
pub record AreFaultExamples : Type 0 where
  pub nothing : IsFirstFault NoPages []
  pub other_magic : IsFirstFault BadHeader (codes "P5")
  pub half_magic : IsFirstFault BadHeader (codes "P")
  pub no_space : IsFirstFault BadHeader (codes "P48 1 0")
  pub sign : IsFirstFault BadHeader (codes "P4 +8 1 0")
  pub open_comment : IsFirstFault BadHeader (codes "P4#c")
  pub ended_after_width : IsFirstFault BadHeader (codes "P4 8")
  pub ended_after_height : IsFirstFault BadHeader (codes "P4 8 1")
  pub comment_after_height : IsFirstFault BadHeader (codes "P4 8 1#c\n0")
  pub trailing_space : IsFirstFault BadHeader (codes "P4 8 1 0 ")
  pub width_0 : IsFirstFault BadWidth (codes "P4 0")
  pub width_0_then_x : IsFirstFault BadWidth (codes "P4 0x")
  pub width_2433 : IsFirstFault BadWidth (codes "P4 2433 0")
  pub height_0 : IsFirstFault NoRows (codes "P4\n8 0\n")
  pub height_0_then_x : IsFirstFault NoRows (codes "P4 8 0x")
  pub height_20001 : IsFirstFault TooManyRows (codes "P4 8 20001")
  pub no_rows_at_all : IsFirstFault ShortData (codes "P4\n8 1\n")
  pub half_a_row : IsFirstFault ShortData (codes "P4 9 2 123")
  pub second_image : IsFirstFault BadWidth (codes "P4 8 1 0P4 0")
