-- What `decode --each` makes of a page of a file: what `decode` with the same options gives of it alone.
use Rattle.std.specs.Prelude.{ℕ, ◌≡◌, ◌⊎◌, ◌+◌, ◌++◌, ◌&&◌, Bool, true, false, not, List, [], Some, None, Result, Ok, Err, codes}
use Rattle.std.specs.Prelude.{◌∷◌, ◌||◌, flat_map, if◌then◌else◌, length, nat_eq, nat_lt}
use Rattle.std.specs.Fmt.{decimal}
use Rattle.faults.specs.Faults.{IsOutside, fault_of_code, fault_text}
use Rattle.faults.specs.declared.fault.ToolFault.{ToolFault}
use Rattle.page_code.specs.PageReaders.{IsPageRefused}
use Rattle.page_code.specs.declared.page_reader.RefusedCode.{RefusedCode}
use Rattle.page_files.specs.Answers.{TellsPage}
use Rattle.page_files.specs.CodedPages.{WritesPage}
use Rattle.page_files.specs.DecodeRecords.{lines_in}
use Rattle.page_files.specs.Decodings.{GivesPage, RefusesDecoding, broken_asked}
use Rattle.page_files.specs.LaterPages.{HasNoMark, IsBroken, Passes}
use Rattle.page_files.specs.PageEnds.{LacksEnd}
use Rattle.page_files.specs.declared.decoding.ReadTo.{ReadTo}
use Rattle.page_files.specs.declared.decoding.ReadTo.TheVariants as to
use Rattle.page_files.specs.declared.options.DecodeOptions.{DecodeOptions}
use Rattle.page_files.specs.declared.options.PageForm.{PageForm}
use Rattle.raster.specs.Packed.{bits_of}
use Rattle.raster.specs.Pages.{PagePixels}
use Rattle.commands.specs.PageFacts.{bits_of as bits_read}
use Rattle.commands.specs.declared.decode.each.facts.PageFacts.{PageFacts}
use Rattle.commands.specs.declared.decode.each.pages.Next.{Next}
use Rattle.commands.specs.declared.decode.each.pages.Next.TheVariants as next
use Rattle.commands.specs.declared.decode.each.pages.PageEnd.{PageEnd}
use Rattle.commands.specs.declared.decode.each.pages.PageEnd.TheVariants as page
use Rattle.commands.specs.declared.decode.each.pages.PageReport.{PageReport}
use Rattle.commands.specs.declared.decode.ends.FileEnd.{FileEnd}
use Rattle.commands.specs.declared.decode.ends.FileEnd.TheVariants as file

-- ---- one page

-- the end of a page of so many rows that was read up to here
abbrev pub end_of : ℕ → ReadTo → PageEnd
end_of rows (to.End bits) = page.Read
end_of rows (to.NoEnd bit) = page.NoEofb
end_of rows (to.Lines repaired) = page.Repaired repaired
end_of rows (to.Fault fault) = page.Cut (rows + 1) fault

-- `decode` ends with status 0 for a page
abbrev pub is_answered : Result Bool ToolFault → Bool
is_answered (Ok complete) = complete
is_answered (Err fault) = false

-- The page that octets begin with was decoded in the way that the options ask for. What is reported of it is what `decode` writes of it on
-- standard error, and it is complete where `decode` ends with status 0; and what it is, is so.
pub record IsAnswered (options : DecodeOptions) (form : PageForm) (octets : List ℕ) (report : PageReport) : Type 0 where
  pub image : PagePixels
  pub read_to : ReadTo
  pub lines : List ℕ
  pub answer : Result Bool ToolFault
  pub gives : (text : List ℕ) → WritesPage image (Some []) (Some text)
      → GivesPage (broken_asked options.salvage options.repair) form octets read_to (length image.rows) text lines
  pub tells : TellsPage form options octets read_to (length image.rows) lines report.told.items answer
  pub end_is : report.facts.end ≡ end_of (length image.rows) read_to
  pub rows_are : report.facts.rows ≡ length image.rows
  pub bits_are : report.facts.bits ≡ bits_read read_to
  pub lacks_end : LacksEnd form octets read_to report.facts.lacks_end
  pub complete_is : report.is_complete ≡ is_answered answer

-- nothing is reported of a page that has no image, and it isn't complete
pub record IsSilent (report : PageReport) : Type 0 where
  pub nothing_told : report.told.items ≡ []
  pub lacks : report.is_complete ≡ false
  pub no_rows : report.facts.rows ≡ 0
  pub no_bits : report.facts.bits ≡ None
  pub end_unknown : report.facts.lacks_end ≡ false

-- a page is cut in its first row that can't be read
abbrev pub IsCutAt : RefusedCode → PageReport → Type 0
IsCutAt refused report = (report.facts.end ≡ page.Cut (refused.rows + 1) (fault_of_code refused.fault)) × IsSilent report

-- a page that is refused as octets, without a row
abbrev pub IsRefusedAt : PageForm → List ℕ → PageReport → Type 0
IsRefusedAt form octets report = (refused : RefusedCode) × IsPageRefused form.coding form.width (bits_of form.order octets) refused
    × IsCutAt refused report

-- a page was decoded in the way that these options ask for, or is refused
abbrev pub IsReadSo : DecodeOptions → PageForm → List ℕ → PageReport → Type 0
IsReadSo options form octets report = IsAnswered options form octets report ⊎ IsRefusedAt form octets report

-- this is why a page isn't decoded in the way that these options ask for
abbrev pub IsRefusal : DecodeOptions → PageForm → List ℕ → ToolFault → Type 0
IsRefusal options form octets fault = IsOutside fault ⊎ RefusesDecoding (broken_asked options.salvage options.repair) form octets fault

-- what is asked for of a page first: of both, to repair it
abbrev pub repairing : DecodeOptions → DecodeOptions
repairing options = record options { salvage = options.salvage && not options.repair }

-- and then: to salvage it
abbrev pub salvaging : DecodeOptions → DecodeOptions
salvaging options = record options { repair = false }

-- both are asked for, and a page that can't be repaired is salvaged
abbrev pub IsSalvaged : DecodeOptions → PageForm → List ℕ → PageReport → Type 0
IsSalvaged options form octets report = (options.salvage ≡ true) × (options.repair ≡ true)
    × ((fault : ToolFault) × IsRefusal (repairing options) form octets fault) × IsReadSo (salvaging options) form octets report

-- a page has no answer, or its image isn't written: nothing is reported but its fault
abbrev pub IsLost : PageReport → Type 0
IsLost report = (fault : ToolFault) × ((report.facts.end ≡ page.Lost fault) ⊎ (report.facts.end ≡ page.NotWritten fault)) × IsSilent report

-- what is reported of the page that octets begin with
abbrev pub IsPageReport : DecodeOptions → PageForm → List ℕ → PageReport → Type 0
IsPageReport options form octets report =
    IsReadSo (repairing options) form octets report ⊎ (IsSalvaged options form octets report ⊎ IsLost report)

-- ---- the page after it

-- A page after one with this end is looked for: if it was read; if it is damaged, as far as damaged pages are asked for (the first truth
-- value).
abbrev pub may_go_on : Bool → PageEnd → Bool
may_go_on mends page.Read = true
may_go_on mends page.NoEofb = true
may_go_on mends (page.Repaired repaired) = true
may_go_on mends (page.Cut row fault) = mends
may_go_on mends (page.Lost fault) = mends
may_go_on mends (page.NotWritten fault) = false

-- What follows the page that octets begin with, as `decode --page` passes it: another one, whose octets are `later`; nothing; or that isn't
-- known, since none is looked for, or the page can't be read to its end and the mark of that isn't found.
abbrev pub GoesOn : Bool → PageForm → List ℕ → List ℕ → PageEnd → Next → Type 0
GoesOn mends form octets later end next.Page = Passes mends true form octets later
GoesOn mends form octets later end next.Nothing = Passes mends false form octets later
GoesOn mends form octets later end next.Unknown = (may_go_on mends end ≡ false) ⊎ (IsBroken form octets × HasNoMark mends form octets)

-- what follows a page, if that is known: another page or nothing
abbrev pub next_of : Bool → Next
next_of true = next.Page
next_of false = next.Nothing

-- ---- what is said of the pages

-- the lines of a text, each after this front
abbrev pub with_front : List ℕ → List ℕ → List ℕ
with_front front text = flat_map (λ line. front ++ (line ++ codes "\n")) (lines_in text)

-- the lines that `decode` writes of a page, each after the page's number
abbrev pub page_lines : ℕ → List ℕ → List ℕ
page_lines number told = with_front (codes "page " ++ (decimal number ++ codes ": ")) told

-- the line of a page that isn't read to its end and is followed by another one
abbrev pub broken_line : ℕ → PageEnd → List ℕ
broken_line number (page.Cut row fault) = codes "page " ++ (decimal number ++ (codes ": cut at row " ++ (decimal row
    ++ (codes ": " ++ (fault_text fault ++ codes "\n")))))
broken_line number (page.Lost fault) =
    codes "page " ++ (decimal number ++ (codes ": not read: " ++ (fault_text fault ++ codes "\n")))
broken_line number page.Read = []
broken_line number page.NoEofb = []
broken_line number (page.Repaired repaired) = []
broken_line number (page.NotWritten fault) = []

-- a page with this end is damaged, or not written
abbrev pub is_damaged : PageEnd → Bool
is_damaged page.Read = false
is_damaged page.NoEofb = false
is_damaged (page.Repaired repaired) = nat_lt 0 repaired
is_damaged (page.Cut row fault) = true
is_damaged (page.Lost fault) = true
is_damaged (page.NotWritten fault) = true

-- one of these pages is
abbrev pub have_damage : List PageFacts → Bool
have_damage [] = false
have_damage (page ∷ pages) = is_damaged page.end || have_damage pages

-- the end of a file of so many pages, of which one is damaged or none, and nothing is written or something is
abbrev pub end_of_pages : ℕ → Bool → Bool → FileEnd
end_of_pages pages true silent = file.Mended pages
end_of_pages pages false true = file.Whole pages
end_of_pages pages false false = file.NoEnd pages

-- it is known that no page follows
abbrev pub is_nothing : Next → Bool
is_nothing next.Nothing = true
is_nothing next.Page = false
is_nothing next.Unknown = false

-- the end of a file whose last page is read line by line: as that of others only if no row is repaired and nothing follows
abbrev pub repaired_end : ℕ → Bool → Bool → ℕ → Next → FileEnd
repaired_end number damaged silent repaired next.Nothing =
    if nat_eq repaired 0 then end_of_pages number damaged silent else file.Repaired number repaired true
repaired_end number damaged silent repaired next.Page = file.Repaired number repaired false
repaired_end number damaged silent repaired next.Unknown = file.Repaired number repaired false

-- the end of a file by that of its last page, which has this number, by whether one of its pages is damaged, by whether nothing is written
-- of them, and by what follows them
abbrev pub file_end : ℕ → Bool → Bool → PageEnd → Next → FileEnd
file_end number damaged silent page.Read after = end_of_pages number damaged silent
file_end number damaged silent page.NoEofb after = end_of_pages number damaged silent
file_end number damaged silent (page.Repaired repaired) after = repaired_end number damaged silent repaired after
file_end number damaged silent (page.Cut row fault) after = file.Cut number row fault (is_nothing after)
file_end number damaged silent (page.Lost fault) after = file.Lost number fault (is_nothing after)
file_end number damaged silent (page.NotWritten fault) after = file.NotWritten number fault
