-- Octets that read to no page's end, but begin with rows.
use Rattle.std.specs.Prelude.{ℕ, ◌≡◌, ◌&&◌, Bool, true, false, List, Option, Some, None, codes, is_none, nat_lt, not}
use Rattle.page_code.specs.declared.Coding.{Coding}
use Rattle.page_code.specs.declared.Coding.TheVariants.{OneDim, T6}
use Rattle.page_files.specs.TwoDims.{SaysTwoDims}
use Rattle.page_files.specs.Unread.{AreNoEols}
use Rattle.page_files.specs.declared.found.Found.{Found}
use Rattle.page_files.specs.declared.found.Found.TheVariants as found
use Rattle.page_files.specs.declared.identify.Tried.{Tried}
use Rattle.page_files.specs.declared.no_eols.NoEols.{NoEols}
use Rattle.page_files.specs.declared.two_dim.TwoDim.{TwoDim}
use Rattle.commands.specs.declared.damaged.Unread.{Unread}
use Rattle.commands.specs.declared.damaged.Unread.TheVariants as unread

-- how many rows of T.6 octets have at most that are no page of it: a few, by chance
abbrev pub chance_rows : ℕ
chance_rows = 15

-- Whether octets that begin with this number of rows in a code are a damaged page. Those of T.4 always are: the width on which lines agree tells
-- them (`IsAgreed`), or their rows do (`HasBegun`). Rows of T.6 must be more than come by chance.
abbrev pub is_page_in : Coding → ℕ → Bool
is_page_in OneDim rows = true
is_page_in T6 rows = nat_lt chance_rows rows

-- octets that begin with rows in this way are a damaged page
abbrev pub is_damaged_page : Tried → Bool
is_damaged_page way = is_page_in way.form.coding way.rows

-- what octets that begin with rows of this code say of themselves in T.4 in two dimensions, if that is taken for true
abbrev pub two_dim_beside : Coding → Option TwoDim → Option TwoDim
two_dim_beside OneDim said = None
two_dim_beside T6 said = said

-- What octets say of themselves in T.4 in two dimensions, if that is taken for true: they read as no page, and aren't known as T.4; rows of
-- T.6 come by chance.
abbrev pub two_dim_among : Found → Option TwoDim → Option TwoDim
two_dim_among (found.Format name) said = None
two_dim_among (found.Page way) said = None
two_dim_among (found.Begun way) said = two_dim_beside way.form.coding said
two_dim_among found.Several said = None
two_dim_among found.Nothing said = said

-- octets that are this are T.4 in two dimensions as they say it, or not
abbrev pub AreTwoDims : List ℕ → Found → Option TwoDim → Type 0
AreTwoDims octets what two_dims = (said : Option TwoDim) × SaysTwoDims octets said × (two_dims ≡ two_dim_among what said)

-- octets that are this are no page, not even a damaged one, and no known format
abbrev pub is_unknown : Found → Bool
is_unknown (found.Format name) = false
is_unknown (found.Page way) = false
is_unknown (found.Begun way) = not (is_damaged_page way)
is_unknown found.Several = false
is_unknown found.Nothing = true

-- these rows of T.4 without EOLs octets are, if that is asked for
abbrev pub AreRowsOnly : Bool → List ℕ → Option NoEols → Type 0
AreRowsOnly true octets rows = AreNoEols octets rows
AreRowsOnly false octets rows = rows ≡ None

-- what octets are that isn't read: T.4 in two dimensions, or else these rows
abbrev pub unread_in : Option TwoDim → Option NoEols → Option Unread
unread_in (Some said) rows = Some (unread.TwoDims said)
unread_in None (Some said) = Some (unread.NoEols said)
unread_in None None = None

-- What octets that are this are that isn't read, if they are that: T.4 in two dimensions as they say it; or, if they are nothing known, rows
-- of T.4 without EOLs.
abbrev pub AreUnread : List ℕ → Found → Option Unread → Type 0
AreUnread octets what said = (two_dims : Option TwoDim) × (rows : Option NoEols) × AreTwoDims octets what two_dims
    × AreRowsOnly (is_none two_dims && is_unknown what) octets rows × (said ≡ unread_in two_dims rows)

-- the name of the format of octets that aren't read; MR is T.4 in two dimensions
abbrev pub format_name : Unread → List ℕ
format_name (unread.TwoDims said) = codes "MR"
format_name (unread.NoEols said) = codes "T.4 without EOLs"
