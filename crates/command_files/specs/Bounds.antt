-- In which ways octets are read as a page, how an image begins and how many octets it has, which octets of a file are kept, and whether there
-- is room for more below the greatest size of a file.
use Rattle.std.specs.Prelude.{◌≡◌, ◌⊎◌, ◌+◌, ◌*◌, ◌++◌, ◌&&◌, ◌-◌, ◌/◌, ◌%◌, ℕ, Bool, true, false, nat_eq, nat_lt, List, Option, None, Some, [], ◌∷◌, Err, length, take}
use Rattle.std.specs.Prelude.{IfSome, if◌then◌else◌, option_map}
use Rattle.page_code.specs.PageReaders.{IsPageRead, IsPageRefused}
use Rattle.page_code.specs.declared.page_reader.RefusedCode.{RefusedCode}
use Rattle.raster.specs.Packed.{bits_of}
use Rattle.raster.specs.Pages.{PagePixels}
use Rattle.raster.specs.Faults.{number_of}
use Rattle.raster.specs.Pbm.{read_images, stride}
use Rattle.raster.specs.PbmText.{header_text}
use Rattle.raster.specs.Pixels.{IsWidth}
use Rattle.raster.specs.declared.fault.RasterFault.{RasterFault}
use Rattle.faults.specs.declared.fault.ToolFault.{ToolFault}
use Rattle.faults.specs.declared.fault.ToolFault.TheVariants.{No}
use Rattle.command_files.specs.declared.files.bounded.Ways.{Ways}
use Rattle.command_files.specs.declared.files.bounded.Ways.TheVariants.{First, One, Tried, Any}

-- a page has this width
abbrev pub HavePageWidths : Ways → Type 0
HavePageWidths (First form) = IsWidth form.width
HavePageWidths (One form) = IsWidth form.width
HavePageWidths (Tried likely) = IfSome likely IsWidth
HavePageWidths Any = Unit {0}

-- the first page is wanted alone, and stands whole at the beginning of octets, or not
abbrev pub BeginSo : Ways → List ℕ → Bool → Type 0
BeginSo (First form) octets true = (page : PagePixels) × (used : ℕ)
    × IsPageRead form.coding form.width form.fine (bits_of form.order octets) page used
BeginSo (First form) octets false = (refused : RefusedCode) × IsPageRefused form.coding form.width (bits_of form.order octets) refused
BeginSo (One form) octets begins = begins ≡ false
BeginSo (Tried likely) octets begins = begins ≡ false
BeginSo Any octets begins = begins ≡ false

-- an image begins with P4, so its octets do, or those of them that were read
abbrev pub begins_image : List ℕ → Bool
begins_image [] = true
begins_image (first ∷ []) = nat_eq first 80
begins_image (first ∷ second ∷ rest) = nat_eq first 80 && nat_eq second 52

-- octets are no images, and the fault is their first one
abbrev pub AreNoImages : Bool → List ℕ → ToolFault → Type 0
AreNoImages fine octets fault = (first : RasterFault) × (read_images fine octets ≡ Err first) × (fault ≡ No (number_of first))

-- the octets that are kept, where there is room for so many more, before and after others were read: as many of them, or none if memory is
-- refused
abbrev pub KeepsFirst : ℕ → List ℕ → List ℕ → List ℕ → Type 0
KeepsFirst room old read new = (new ≡ old ++ take room read) ⊎ (new ≡ old)

-- the octets of a page's image: its header, and its rows, each filled to whole octets
abbrev pub image_octets : PagePixels → ℕ
image_octets page = length (header_text page.width (length page.rows)) + stride page.width * length page.rows

-- the place in a file of this length that is written next, by where its descriptor stands and the flags that it was opened with: the end if
-- 1024 (O_APPEND of Linux) is one of these
abbrev pub next_place : ℕ → ℕ → ℕ → ℕ
next_place length place flags = if nat_eq (flags / 1024 % 2) 1 then length else place

-- the room that is left below the greatest size of a file of so many octets, if that is limited
abbrev pub room_below : Option ℕ → ℕ → Option ℕ
room_below most length = option_map (λ most. most - length) most

-- the room that is left below the greatest size of a file of some length, if that is limited
abbrev pub IsRoomBelow : Option ℕ → Option ℕ → Type 0
IsRoomBelow None room = room ≡ None
IsRoomBelow (Some most) room = (length : ℕ) × (room ≡ Some (most - length))

-- octets would pass the room that is left below a file's greatest size: they are more, and it is limited
abbrev pub passes : Option ℕ → List ℕ → Bool
passes None octets = false
passes (Some room) octets = nat_lt room (length octets)
