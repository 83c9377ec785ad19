-- What octets are: whether that is known, and the record of it.
use Rattle.std.specs.Prelude.{ℕ, Bool, true, false, Option, Some, None, Result, Ok, Err, codes, if◌then◌else◌, unwrap_or}
use Rattle.serde_json.specs.Data.{Data, Members, null, object, put}
use Rattle.commands.specs.Damaged.{format_name, is_damaged_page}
use Rattle.commands.specs.PageFacts.{code_word, maybe_count, order_word}
use Rattle.commands.specs.declared.damaged.Unread.{Unread}
use Rattle.faults.specs.RecordLines.{count, words}
use Rattle.faults.specs.declared.fault.ToolFault.{ToolFault}
use Rattle.page_files.specs.declared.found.Found.{Found}
use Rattle.page_files.specs.declared.found.Found.TheVariants as found
use Rattle.page_files.specs.declared.identify.Tried.{Tried}

-- it is known what octets are: a format, or a page that reads in one way
abbrev pub is_known : Found → Bool
is_known (found.Format name) = true
is_known (found.Page way) = true
is_known (found.Begun way) = false
is_known found.Several = false
is_known found.Nothing = false

-- ---- records

-- the way in which octets are read as a page, if they are one, or a damaged one
abbrev pub way_of : Option Unread → Found → Option Tried
way_of (Some said) what = None
way_of None (found.Format name) = None
way_of None (found.Page way) = Some way
way_of None (found.Begun way) = if is_damaged_page way then Some way else None
way_of None found.Several = None
way_of None found.Nothing = None

-- the name of the format of octets that aren't read
abbrev pub format_of : Option Unread → Found → Data
format_of (Some said) what = words (format_name said)
format_of None (found.Format name) = words name.now
format_of None (found.Page way) = null
format_of None (found.Begun way) = null
format_of None found.Several = null
format_of None found.Nothing = null

-- the bits of a page's code, if it is read to its end
abbrev pub bits_in : Result ℕ ToolFault → Option ℕ
bits_in (Ok bits) = Some bits
bits_in (Err fault) = None

-- members with the way in which octets are read: its code and order as options have them, the page's width in pixels, its rows, as many as
-- `decode --repair` reads if that copies none, and the bits of its code; null if they are no page
abbrev pub with_way_found : Option Tried → Members → Members
with_way_found None members = put (codes "width") null (put (codes "rows") null (put (codes "order") null
    (put (codes "code") null (put (codes "bits") null members))))
with_way_found (Some way) members = put (codes "width") (count way.form.width)
    (put (codes "rows") (count (unwrap_or way.mended way.rows)) (put (codes "order") (words (order_word way.form.order))
    (put (codes "code") (words (code_word way.form.coding)) (put (codes "bits") (maybe_count (bits_in way.end)) members))))

-- members with what octets are
abbrev pub with_found : Option Unread → Found → Members → Members
with_found unread what members = put (codes "not_read") (format_of unread what) (with_way_found (way_of unread what) members)

-- a record with what octets are, and perhaps what they are that isn't read
abbrev pub record_with_found : Option Unread → Found → Data → Data
record_with_found unread what (object members) = object (with_found unread what members)
record_with_found unread what other = other
