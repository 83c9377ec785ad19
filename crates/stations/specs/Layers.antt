-- What a call does with pages, their codes and speeds, by the definitions of the layers below.
use Rattle.std.specs.Prelude.{ℕ, ◌≡◌, ◌≤◌, ◌<◌, ◌*◌, Bool, cond, ◌&&◌, List, length, replicate, Option, Some, None, Result, Ok, Err, nat_eq}
use Rattle.std.specs.Prelude.{nat_le}
use Rattle.std.specs.Bool.{beq}
use Rattle.std.specs.Option.{option_map}
use Rattle.raster.specs.Octets.{packed}
use Rattle.raster.specs.Packed.{bits_of}
use Rattle.raster.specs.Pages.{PagePixels, IsPage}
use Rattle.raster.specs.declared.packed.Order.TheVariants.{LsbFirst}
use Rattle.raster.specs.declared.row.Color.{Color}
use Rattle.run_tables.specs.declared.fault.CodeFaultKind.{CodeFaultKind}
use Rattle.page_code.specs.Codings.{code_of, read_rows, ReadsIn}
use Rattle.page_code.specs.PageCodes.{ReadsPage}
use Rattle.signals.specs.Agreement.{pixels_of, width_of_pixels, agreed, lower_speed, speeds_below}
use Rattle.signals.specs.Training.{training_octets, longest_zeros}
use Rattle.signals.specs.declared.agreement.NotCompatible.{NotCompatible}
use Rattle.signals.specs.declared.params.Caps.{Caps}
use Rattle.signals.specs.declared.params.PageWidth.{PageWidth}
use Rattle.signals.specs.declared.params.Params.{Params}
use Rattle.signals.specs.declared.params.Wish.{Wish}
use Rattle.partial_page.specs.Frames.{cut, max_page_octets}

-- a document is its pages in order
abbrev pub Document : Type 0
Document = List PagePixels

-- the octets of a page's code, the least significant bit of each first
unfoldable pub code_octets : Params → PagePixels → List ℕ
code_octets params page = packed (code_of params.coding page.width page.rows)

-- a page's code as blocks of frames of octets, the least significant bit of each octet first
unfoldable pub code_blocks : Params → PagePixels → List (List (List ℕ))
code_blocks params page = cut params.small (code_octets params page)

-- there are at most 8,388,608 octets, the most that a call carries for a page
unfoldable pub within_page_limit : List ℕ → Bool
within_page_limit octets = nat_le (length octets) max_page_octets

-- a page's code has at most 8,388,608 octets, the most that a call carries for a page
unfoldable pub code_within_limit : Params → PagePixels → Bool
code_within_limit params page = within_page_limit (code_octets params page)

-- the blocks of a page's code; None if the code is too long for a call
abbrev pub code_blocks_within_limit : Params → PagePixels → Option (List (List (List ℕ)))
code_blocks_within_limit params page = cond (code_within_limit params page) (Some (code_blocks params page)) None

-- the blocks of a page that may not be there
abbrev pub code_blocks_at : Params → Option PagePixels → Option (List (List (List ℕ)))
code_blocks_at params None = None
code_blocks_at params (Some page) = code_blocks_within_limit params page

-- rows that were read, as a page of what was agreed
abbrev pub page_of : Params → Result (List (List Color) × ℕ) (ℕ × CodeFaultKind) → Option PagePixels
page_of params (Ok read) = Some (record { width = pixels_of params.width; fine = params.fine; rows = read.0 })
page_of params (Err fault) = None

-- the page that octets begin with, read by the agreed parameters; None if they begin with no page, or are too many for a call
unfoldable pub page_read : Params → List ℕ → Option PagePixels
page_read params octets =
    cond (within_page_limit octets)
    (page_of params (read_rows params.coding (pixels_of params.width) (bits_of LsbFirst octets)))
    None

-- octets are a page's by the grammar of its code: they are few enough for a call, and begin with bits that read as the page
pub record IsPageOf (params : Params) (octets : List ℕ) (page : PagePixels) : Type 0 where
  pub few : length octets ≤ max_page_octets
  pub used : ℕ
  pub reads : ReadsPage (ReadsIn params.coding) (pixels_of params.width) params.fine (bits_of LsbFirst octets) page used

-- two neighbouring pages are of one group: they have the same width and the same lines
unfoldable pub in_one_group : PagePixels → PagePixels → Bool
in_one_group page next = nat_eq page.width next.width && beq page.fine next.fine

-- the parameters of an agreement, if there is one
abbrev pub if_agreed : Result Params NotCompatible → Option Params
if_agreed (Ok params) = Some params
if_agreed (Err refused) = None

-- what both stations agree on for pages of a width, if a call can have that width
abbrev pub agreed_at : Caps → Wish → Option PageWidth → Bool → Option Params
agreed_at caps wish None fine = None
agreed_at caps wish (Some width) fine = if_agreed (agreed caps wish width fine)

-- what both stations agree on for a page, at the highest speed
unfoldable pub agreed_for : Caps → Wish → Option PagePixels → Option Params
agreed_for caps wish None = None
agreed_for caps wish (Some page) = agreed_at caps wish (width_of_pixels page.width) page.fine

-- the agreed parameters at the next lower speed, if there is one
unfoldable pub lowered : Caps → Wish → Params → Option Params
lowered caps wish params = option_map (λ speed. record params { speed = speed }) (lower_speed caps wish params.speed)

-- how many of the speeds tried are below that of the parameters
unfoldable pub speeds_left : Caps → Wish → Params → ℕ
speeds_left caps wish params = speeds_below wish.modems caps.modems params.speed

-- the octets of a training check, all 00
unfoldable pub training : Params → List ℕ
training params = replicate (training_octets params.speed) 0

-- a training check that came is good at the speed agreed
unfoldable pub is_good_training : List ℕ → Params → Bool
is_good_training octets params = nat_le (training_octets params.speed) (2 * longest_zeros octets)

-- a page has 1 to 20,000 rows, all of its width
pub record IsFullPage (page : PagePixels) : Type 0 where
  pub valid : IsPage page
  pub some : 0 < length page.rows

-- a page has the width and the lines of parameters
pub record Fits (params : Params) (page : PagePixels) : Type 0 where
  pub wide : page.width ≡ pixels_of params.width
  pub fineness : page.fine ≡ params.fine
