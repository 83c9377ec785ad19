-- The messages of `decode` as JSON for programs.
use Rattle.std.specs.Prelude.{ℕ, ◌∷◌, ◌-◌, ◌^◌, ◌==◌, Bool, List, [], codes, cond, flat_map, min}
use Rattle.std.specs.List.{slice_split}
use Rattle.serde_json.specs.Data.{Data, member, no_members, object}
use Rattle.faults.specs.FaultRecords.{notice_record}
use Rattle.faults.specs.RecordLines.{count, record_line}

-- the rows of a page, and the bits of its code, up to 2 ^ 64 - 1
abbrev pub page_record : ℕ → ℕ → Data
page_record rows bits = object (member (codes "bits") (count (min (2 ^ 64 - 1) bits))
    (member (codes "rows") (count rows) no_members))

-- how many octets come after a page, up to 2 ^ 64 - 1
abbrev pub after_record : ℕ → Data
after_record octets = object (member (codes "octets_after") (count (min (2 ^ 64 - 1) octets)) no_members)

-- the rows of a page alone
abbrev pub rows_record : ℕ → Data
rows_record rows = object (member (codes "rows") (count rows) no_members)

-- the octet at which the page of this number begins
abbrev pub begins_record : ℕ → ℕ → Data
begins_record page octet = object (member (codes "begins_at_octet") (count octet) (member (codes "page") (count page) no_members))

-- the parts of a text that another one follows
unfoldable pub but_last : List (List ℕ) → List (List ℕ)
but_last [] = []
but_last (part ∷ []) = []
but_last (part ∷ next ∷ parts) = part ∷ but_last (next ∷ parts)

-- the lines of a text, each without the LF that ends it
abbrev pub lines_in : List ℕ → List (List ℕ)
lines_in text = but_last (slice_split (λ octet. octet == 10) text)

-- the record of a notice, as a line
abbrev pub notice_line : List ℕ → List ℕ
notice_line words = record_line (notice_record words)

-- the record of a notice for each line of a text
abbrev pub notices : List ℕ → List ℕ
notices text = flat_map notice_line (lines_in text)

-- lines as they are, or the record of a notice for each of them
abbrev pub as_told : Bool → List ℕ → List ℕ
as_told records lines = cond records (notices lines) lines
