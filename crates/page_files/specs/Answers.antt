-- What `decode` gives of octets: an image, the messages about it, and whether the result is complete.
use Rattle.std.specs.Prelude.{ℕ, ◌≡◌, ◌-◌, ◌↔◌, Bool, not, ◌&&◌, ◌||◌, List, [], ◌++◌, length, Result, Ok, Err, IsTrue, codes, cond, nat_eq}
use Rattle.std.specs.Prelude.{nat_le}
use Rattle.std.specs.Fmt.{decimal}
use Rattle.std.specs.Int.{div_ceil}
use Rattle.page_files.specs.DecodeRecords.{after_record, as_told, page_record, rows_record}
use Rattle.page_files.specs.Decodings.{GivesPage, broken_asked}
use Rattle.page_files.specs.PageEnds.{HasItsEnd, lines_end_by_rtc}
use Rattle.faults.specs.RecordLines.{record_line}
use Rattle.page_files.specs.declared.decoding.ReadTo.{ReadTo}
use Rattle.page_files.specs.declared.decoding.ReadTo.TheVariants.{End, Fault, Lines, NoEnd}
use Rattle.faults.specs.declared.fault.ToolFault.{ToolFault}
use Rattle.page_files.specs.declared.options.DecodeOptions.{DecodeOptions}
use Rattle.page_files.specs.declared.options.PageForm.{PageForm}

-- the line of a page's rows and of the bits of its code
abbrev pub page_line : ℕ → ℕ → List ℕ
page_line rows bits = codes "rows " ++ (decimal rows ++ (codes " bits " ++ (decimal bits ++ codes "\n")))

-- the line of the octets after a page
abbrev pub after_line : ℕ → List ℕ
after_line count = codes "octets after the page " ++ (decimal count ++ codes "\n")

-- the line of a page's rows alone
abbrev pub rows_line : ℕ → List ℕ
rows_line rows = codes "rows " ++ (decimal rows ++ codes "\n")

-- a page's rows and the bits of its code as a line, or as a record
abbrev pub page_text : Bool → ℕ → ℕ → List ℕ
page_text records rows bits = cond records (record_line (page_record rows bits)) (page_line rows bits)

-- the octets after a page, if there are any, as a line or a record
abbrev pub after_text : Bool → ℕ → List ℕ
after_text records count = cond (nat_eq count 0) [] (cond records (record_line (after_record count)) (after_line count))

-- a page's rows alone as a line, or as a record
abbrev pub rows_text : Bool → ℕ → List ℕ
rows_text records rows = cond records (record_line (rows_record rows)) (rows_line rows)

-- the line of a page of T.4 without its RTC
abbrev pub no_rtc_line : ℕ → List ℕ
no_rtc_line rows = codes "the page ends without its RTC after " ++ (decimal rows ++ codes " rows\n")

-- no more rows are repaired than read
abbrev pub is_mostly_read : ℕ → ℕ → Bool
is_mostly_read rows repaired = nat_le repaired (rows - repaired)

-- the line of a page with more rows that are repaired than read
abbrev pub few_line : List ℕ
few_line = codes "more rows are repaired than read: identify may tell what it is\n"

-- how many octets come after those of a page's code
abbrev pub octets_after : List ℕ → ℕ → ℕ
octets_after octets bits = length octets - div_ceil bits 8

-- what is reported of a page read to the end of its code: with `--verbose` its counts, and that RTC is missing
abbrev pub end_text : Bool → Bool → ℕ → ℕ → ℕ → Bool → List ℕ
end_text verbose records rows bits after has_end =
    cond verbose (page_text records rows bits ++ after_text records after) [] ++ as_told records (cond has_end [] (no_rtc_line rows))

-- what is reported of a page read line by line, after the lines of its repaired rows: with `--verbose` its rows, that RTC is missing, and
-- that more rows are repaired than read
abbrev pub lines_text : Bool → Bool → ℕ → ℕ → Bool → List ℕ
lines_text verbose records rows count has_end = cond verbose (rows_text records rows) []
    ++ (as_told records (cond has_end [] (no_rtc_line rows)) ++ as_told records (cond (is_mostly_read rows count) [] few_line))

-- What is reported of a page, and whether the result is complete. First come the lines of what was decoded. Read to the end of its code: with
-- `--verbose` its rows, bits and the octets after it; a line if RTC is missing, and then it isn't complete with `--whole`. Read line by
-- line: with `--verbose` its rows; a line if RTC is missing, and then it isn't complete with `--whole`; and a line if more rows are
-- repaired than read, and then it isn't complete. Without its EOFB: with `--verbose` its rows; it isn't complete with `--whole`. Refused:
-- the fault is returned. With `records` each line is an object of JSON.
abbrev pub TellsPage : PageForm → DecodeOptions → List ℕ → ReadTo → ℕ → List ℕ → List ℕ → Result Bool ToolFault → Type 0
TellsPage form options octets (End bits) rows lines told end =
    (has_end : Bool) × (IsTrue has_end ↔ HasItsEnd form.coding form.order octets bits)
    × (told ≡ as_told options.records lines ++ end_text options.verbose options.records rows bits (octets_after octets bits) has_end)
    × (end ≡ Ok (has_end || not options.whole))
TellsPage form options octets (Lines count) rows lines told end =
    (told ≡ as_told options.records lines
    ++ lines_text options.verbose options.records rows count (lines_end_by_rtc form.order octets))
    × (end ≡ Ok (is_mostly_read rows count && (lines_end_by_rtc form.order octets || not options.whole)))
TellsPage form options octets (NoEnd bit) rows lines told end =
    (told ≡ as_told options.records lines ++ cond options.verbose (rows_text options.records rows) []) × (end ≡ Ok (not options.whole))
TellsPage form options octets (Fault fault) rows lines told end = (told ≡ as_told options.records lines) × (end ≡ Err fault)

-- A page is decoded in the way that the options ask for, with exactly these lines for standard error; with `records`, objects of JSON
-- instead, where each line that isn't one of `--verbose` is a notice. `TellsPage` says which lines, and when the result is complete.
pub record AnswersDecode (form : PageForm) (options : DecodeOptions) (octets image told : List ℕ) (end : Result Bool ToolFault)
    : Type 0 where
  pub read_to : ReadTo
  pub rows : ℕ
  pub lines : List ℕ
  pub gives : GivesPage (broken_asked options.salvage options.repair) form octets read_to rows image lines
  pub tells : TellsPage form options octets read_to rows lines told end
