-- What a page of a file is, for programs.
use Rattle.std.specs.Prelude.{ℕ, ◌^◌, ◌∷◌, ◌||◌, [], Bool, false, List, is_some, Option, Some, None, String, codes, cond}
use Rattle.std.specs.Prelude.{map, nat_lt, option_map, string_bytes}
use Rattle.serde_json.specs.Data.{Data, Members, array, boolean, no_members, null, object, put}
use Rattle.serde_json.specs.View.{items_of}
use Rattle.faults.specs.FaultKinds.{kind_of, number_of}
use Rattle.faults.specs.RecordLines.{count, words}
use Rattle.faults.specs.declared.fault.ToolFault.{ToolFault}
use Rattle.faults.specs.declared.fault.ToolFault.TheVariants as fault
use Rattle.page_code.specs.declared.Coding.{Coding}
use Rattle.page_code.specs.declared.Coding.TheVariants.{OneDim, T6}
use Rattle.page_files.specs.declared.decoding.ReadTo.{ReadTo}
use Rattle.page_files.specs.declared.decoding.ReadTo.TheVariants as to
use Rattle.page_files.specs.declared.options.PageForm.{PageForm}
use Rattle.raster.specs.declared.packed.Order.{Order}
use Rattle.raster.specs.declared.packed.Order.TheVariants.{LsbFirst, MsbFirst}
use Rattle.commands.specs.declared.decode.each.facts.PageFacts.{PageFacts}
use Rattle.commands.specs.declared.decode.each.pages.PageEnd.{PageEnd}
use Rattle.commands.specs.declared.decode.each.pages.PageEnd.TheVariants as page

-- the bits of a page's code, if that was read to its end
abbrev pub bits_of : ReadTo → Option ℕ
bits_of (to.End bits) = Some bits
bits_of (to.NoEnd bit) = None
bits_of (to.Lines repaired) = None
bits_of (to.Fault refused) = None

-- the image of one of these pages is written
abbrev pub has_images : List PageFacts → Bool
has_images [] = false
has_images (page ∷ pages) = is_some page.out || has_images pages

-- ---- the record of a page

-- a number, or null
abbrev pub maybe_count : Option ℕ → Data
maybe_count None = null
maybe_count (Some n) = cond (nat_lt n (2 ^ 64)) (count n) null

-- a text, or null
abbrev pub maybe_words : {Z : Type 0} → Option (String Z) → Data
maybe_words None = null
maybe_words (Some text) = words (string_bytes text)

-- the value of `--code` for a code
abbrev pub code_word : Coding → List ℕ
code_word OneDim = codes "mh"
code_word T6 = codes "mmr"

-- the value of `--order` for an order of bits
abbrev pub order_word : Order → List ℕ
order_word MsbFirst = codes "msb"
order_word LsbFirst = codes "lsb"

-- what lines are called, by whether they are fine
abbrev pub lines_word : Bool → List ℕ
lines_word fine = cond fine (codes "fine") (codes "standard")

-- the fault with which a page ends, if it does
abbrev pub fault_of : PageEnd → Option ToolFault
fault_of page.Read = None
fault_of page.NoEofb = None
fault_of (page.Repaired rows) = None
fault_of (page.Cut row refused) = Some refused
fault_of (page.Lost refused) = Some refused
fault_of (page.NotWritten refused) = Some refused

-- the number of the fault with which a page ends, if it does
abbrev pub fault_number : PageEnd → Option ℕ
fault_number end = option_map (λ refused. number_of (kind_of refused)) (fault_of end)

-- the bit at which a page is refused
abbrev pub bit_of : Option ToolFault → Option ℕ
bit_of None = None
bit_of (Some (fault.AtBit number place)) = Some place
bit_of (Some (fault.AtLine line)) = None
bit_of (Some (fault.No number)) = None

-- how many of a page's rows are repaired
abbrev pub repaired_in : PageEnd → ℕ
repaired_in page.Read = 0
repaired_in page.NoEofb = 0
repaired_in (page.Repaired rows) = rows
repaired_in (page.Cut row refused) = 0
repaired_in (page.Lost refused) = 0
repaired_in (page.NotWritten refused) = 0

-- a page's image has the rows before the refused one
abbrev pub is_salvaged : PageEnd → ℕ → Bool
is_salvaged page.Read rows = false
is_salvaged page.NoEofb rows = false
is_salvaged (page.Repaired repaired) rows = false
is_salvaged (page.Cut row refused) rows = nat_lt 0 rows
is_salvaged (page.Lost refused) rows = false
is_salvaged (page.NotWritten refused) rows = false

-- members with how a page is read: its code, order and lines as options have them, and its width in pixels
abbrev pub with_way : PageForm → Members → Members
with_way form members = put (codes "width") (count form.width) (put (codes "order") (words (order_word form.order))
    (put (codes "lines") (words (lines_word form.fine)) (put (codes "code") (words (code_word form.coding)) members)))

-- members with what a page has: its rows, the bits of its code, whether that lacks its end, and the name of its image
abbrev pub with_content : PageFacts → Members → Members
with_content facts members = put (codes "rows") (count facts.rows) (put (codes "out") (maybe_words facts.out)
    (put (codes "missing_end") (boolean facts.lacks_end) (put (codes "bits") (maybe_count facts.bits) members)))

-- members with what is wrong with a page: how many rows are repaired, whether the rows before the refused one are its image, its fault, and
-- the bit at which it is refused
abbrev pub with_damage : PageEnd → ℕ → Members → Members
with_damage end rows members = put (codes "salvaged") (boolean (is_salvaged end rows))
    (put (codes "repaired") (count (repaired_in end)) (put (codes "fault") (maybe_count (fault_number end))
    (put (codes "bit") (maybe_count (bit_of (fault_of end))) members)))

-- the record of a page that was read as this form
abbrev pub page_record : PageForm → PageFacts → Data
page_record form facts = object (with_damage facts.end facts.rows (with_content facts (with_way form no_members)))

-- the records of pages, as the items of an array
abbrev pub page_records : PageForm → List PageFacts → Data
page_records form pages = array (items_of (map (page_record form) pages))
