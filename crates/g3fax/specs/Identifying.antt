-- What octets are, by numbers.
use Rattle.std.specs.Prelude.{ℕ, ◌≡◌, ◌≤◌, ◌<◌, ◌-◌, ◌^◌, ◌++◌, ◌⊎◌, [], List, Result, Ok, Err, drop, length, min}
use Rattle.std.specs.declared.option.Option.{Option}
use Rattle.std.specs.declared.option.Option.TheVariants.{None, Some}
use Rattle.raster.specs.declared.coding.Coding.{Coding}
use Rattle.raster.specs.declared.coding.Coding.TheVariants.{OneDim, T6}
use Rattle.raster.specs.declared.packed.Order.{Order}
use Rattle.raster.specs.declared.packed.Order.TheVariants.{LsbFirst, MsbFirst}
use Rattle.faults.specs.declared.fault.ToolFault.{ToolFault}
use Rattle.faults.specs.declared.fault.ToolFault.TheVariants.{No, AtBit, AtLine}
use Rattle.page_files.specs.Found.{Finds}
use Rattle.page_files.specs.declared.found.Found.{Found}
use Rattle.page_files.specs.declared.found.Found.TheVariants.{Format, Page, Begun, Several, Nothing}
use Rattle.page_files.specs.TwoDims.{SaysTwoDims}
use Rattle.page_files.specs.declared.identify.Tried.{Tried}
use Rattle.page_files.specs.declared.two_dim.TwoDim.{TwoDim}
use Rattle.g3fax.specs.SignalNumbers.{coding_number}
use Rattle.g3fax.specs.Statuses.{ok, no_memory, no_room}
use Rattle.g3fax.specs.declared.identifying.G3Found.{G3Found}

-- a number in 64 bits, or the greatest such number
abbrev pub in_64 : ℕ → ℕ
in_64 number = min number (2 ^ 64 - 1)

-- a number in 32 bits, or the greatest such number
abbrev pub in_32 : ℕ → ℕ
in_32 number = min number (2 ^ 32 - 1)

-- the number of an order of bits: 0 most significant first, 1 least significant first
abbrev pub order_number : Order → ℕ
order_number MsbFirst = 0
order_number LsbFirst = 1

-- the number of a fault
abbrev pub fault_number : ToolFault → ℕ
fault_number (No number) = number
fault_number (AtBit number place) = number
fault_number (AtLine line) = 30

-- the bit of a fault; 0 for a fault that has none
abbrev pub fault_place : ToolFault → ℕ
fault_place (No number) = 0
fault_place (AtBit number place) = place
fault_place (AtLine line) = 0

-- the number of the fault by which reading ended; 0 at a page's end
abbrev pub end_fault : Result ℕ ToolFault → ℕ
end_fault (Ok bits) = 0
end_fault (Err fault) = fault_number fault

-- the bits of the page's code, or the bit of the fault
abbrev pub end_place : Result ℕ ToolFault → ℕ
end_place (Ok bits) = bits
end_place (Err fault) = fault_place fault

-- the rows that repair gives; 0 if it wasn't tried, or copies a row or gives no page
abbrev pub repaired_rows : Option ℕ → ℕ
repaired_rows None = 0
repaired_rows (Some rows) = rows

-- what is told of one way in which octets read, under the number of what they are
abbrev pub way_told : ℕ → Tried → G3Found
way_told kind one = record {
  place = in_64 (end_place one.end);
  kind = kind;
  coding = coding_number one.form.coding;
  order = order_number one.form.order;
  width = one.form.width;
  rows = in_32 one.rows;
  fault = end_fault one.end;
  repaired = in_32 (repaired_rows one.mended);
  length = 0;
}

-- what is told of octets that read in no way that is known alone
abbrev pub bare : ℕ → ℕ → G3Found
bare kind length = record { place = 0; kind = kind; coding = 0; order = 0; width = 0; rows = 0; fault = 0; repaired = 0; length = length }

-- what octets are, by numbers: 1 a page, or pages, that read in one way; 2 another format; 3 a page of which several widths fit; 4 nothing
-- that is known; 5 a page that reads to no end
abbrev pub found_told : Found → G3Found
found_told (Page one) = way_told 1 one
found_told (Begun one) = way_told 5 one
found_told (Format name) = bare 2 (in_32 (length name.now))
found_told Several = bare 3 0
found_told Nothing = bare 4 0

-- the name of the format that they are; no octets if they are none
abbrev pub format_name : Found → List ℕ
format_name (Page one) = []
format_name (Begun one) = []
format_name (Format name) = name.now
format_name Several = []
format_name Nothing = []

-- What octets are is told by numbers, and the name of a format is copied to the beginning of a buffer. 103 exactly if the buffer is too
-- small for it, and nothing changes.
pub record TellsFound (what : Found) (old new : G3Found) (before after : List ℕ) (status : ℕ) : Type 0 where
  pub done : length (format_name what) ≤ length before → (status ≡ ok) × (new ≡ found_told what)
      × (after ≡ format_name what ++ drop (length (format_name what)) before)
  pub refused : length before < length (format_name what) → (status ≡ no_room) × (new ≡ old) × (after ≡ before)

-- what octets whose rows read furthest in this code say of themselves in T.4 in two dimensions, if that is taken for true: rows of T.6 come by
-- chance
abbrev pub said_beside : Coding → Option TwoDim → Option TwoDim
said_beside OneDim said = None
said_beside T6 said = said

-- what octets say of themselves in T.4 in two dimensions, if that is taken for true: they read as no page, and no two rows of T.4 are read
abbrev pub said_of : Found → Option TwoDim → Option TwoDim
said_of (Page one) said = None
said_of (Begun one) said = said_beside one.form.coding said
said_of (Format name) said = None
said_of Several said = None
said_of Nothing said = said

-- what is told of octets of T.4 in two dimensions: 6, the order of bits, and the width of their first row; 0 for all else
abbrev pub two_dim_told : TwoDim → G3Found
two_dim_told said = record {
  place = 0;
  kind = 6;
  coding = 0;
  order = order_number said.order;
  width = in_32 said.width;
  rows = 0;
  fault = 0;
  repaired = 0;
  length = 0;
}

-- what octets are is told: T.4 in two dimensions, if they say so, or what they are else
abbrev pub TellsEither : Option TwoDim → Found → G3Found → G3Found → List ℕ → List ℕ → ℕ → Type 0
TellsEither (Some said) what old new before after status = (status ≡ ok) × (new ≡ two_dim_told said) × (after ≡ before)
TellsEither None what old new before after status = TellsFound what old new before after status

-- What the octets are is told, as `identify` finds it; or memory is refused, and nothing changes.
abbrev pub TellsIdentity : List ℕ → G3Found → G3Found → List ℕ → List ℕ → ℕ → Type 0
TellsIdentity octets old new before after status =
    ((what : Found) × (said : Option TwoDim) × Finds octets what × SaysTwoDims octets said
    × TellsEither (said_of what said) what old new before after status)
    ⊎ ((status ≡ no_memory) × (new ≡ old) × (after ≡ before))
