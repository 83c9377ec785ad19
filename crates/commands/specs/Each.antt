-- What `decode --each` gives of each file, and what it says of it.
use Rattle.std.specs.Prelude.{ℕ, zero, suc, ◌≡◌, ◌≢◌, ◌≤◌, ◌⊎◌, ◌+◌, ◌++◌, ◌∷◌, ◌&&◌, ◌||◌, Bool, true, false, List, [], Option, Some, None, Result, Ok, Err}
use Rattle.std.specs.Prelude.{◌==◌, codes, cond, length, map, string_bytes}
use Rattle.std.specs.Fmt.{decimal}
use Rattle.serde_json.specs.View.{items_of}
use Rattle.serde_json.specs.Data.{Data, array, boolean, member, no_items, no_members, null, object, put}
use Rattle.command_files.specs.Runs.{completeness_of}
use Rattle.command_files.specs.declared.command.Completeness.{Completeness}
use Rattle.faults.specs.FaultKinds.{kind_of, number_of}
use Rattle.faults.specs.Faults.{IsOutside, fault_text}
use Rattle.faults.specs.RecordLines.{count, record_line, words}
use Rattle.faults.specs.declared.fault.ToolFault.{ToolFault}
use Rattle.page_files.specs.LaterPages.{asks_damaged}
use Rattle.page_files.specs.Identified.{order_name}
use Rattle.page_files.specs.declared.no_eols.NoEols.{NoEols}
use Rattle.page_files.specs.declared.options.DecodeOptions.{DecodeOptions}
use Rattle.page_files.specs.declared.options.PageForm.{PageForm}
use Rattle.commands.specs.Damaged.{format_name}
use Rattle.commands.specs.FoundForms.{IsFormOf}
use Rattle.commands.specs.Names.{record_name, shown_name}
use Rattle.commands.specs.Places.{has_left_out, left_out_words}
use Rattle.commands.specs.PageFacts.{has_images, page_records}
use Rattle.commands.specs.Pages.{GoesOn, IsPageReport, broken_line, file_end, have_damage, page_lines, with_front}
use Rattle.commands.specs.Printed.{ArePrinted, PrintsAll}
use Rattle.commands.specs.declared.damaged.Unread.{Unread}
use Rattle.commands.specs.declared.damaged.Unread.TheVariants as unread
use Rattle.commands.specs.declared.decode.each.EachCommand.{EachCommand}
use Rattle.commands.specs.declared.decode.each.facts.PageFacts.{PageFacts}
use Rattle.commands.specs.declared.decode.each.pages.Next.{Next}
use Rattle.commands.specs.declared.decode.each.pages.Next.TheVariants as next
use Rattle.commands.specs.declared.decode.each.pages.PageReport.{PageReport}
use Rattle.commands.specs.declared.decode.each.report.FileReport.{FileReport}
use Rattle.commands.specs.declared.decode.ends.FileEnd.{FileEnd}
use Rattle.commands.specs.declared.decode.ends.FileEnd.TheVariants as file

-- ---- a file

-- after so many pages `later` begins with the next one; what these are, what is reported of them, and whether all are complete
abbrev pub ArePagesTo : DecodeOptions → PageForm → List ℕ → ℕ → List ℕ → List PageFacts → List ℕ → Bool → Type 0
ArePagesTo options form octets zero later pages told complete = (later ≡ octets) × (pages ≡ []) × (told ≡ []) × (complete ≡ true)
ArePagesTo options form octets (suc count) later pages told complete =
    (middle lines : List ℕ) × (others : List PageFacts) × (before : Bool) × (page : PageReport)
    × ArePagesTo options form octets count middle others lines before × IsPageReport options form middle page
    × GoesOn (asks_damaged options) form middle later page.facts.end next.Page × (pages ≡ others ++ page.facts ∷ [])
    × (told ≡ lines ++ (page_lines (count + 1) page.told.items ++ broken_line (count + 1) page.facts.end))
    × (complete ≡ (before && page.is_complete))

-- no octets are there
abbrev pub is_silent : List ℕ → Bool
is_silent told = length told == 0

-- What is reported of a file of pages of this form: of each of them what `decode` writes of it alone. It is complete if each of them is.
pub record EndsAs (options : DecodeOptions) (form : PageForm) (octets : List ℕ) (report : FileReport) : Type 0 where
  pub before : ℕ
  pub last : List ℕ
  pub others : List PageFacts
  pub lines : List ℕ
  pub complete : Bool
  pub pages : ArePagesTo options form octets before last others lines complete
  pub page : PageReport
  pub is_page : IsPageReport options form last page
  pub later : List ℕ
  pub after : Next
  pub goes_on : GoesOn (asks_damaged options) form last later page.facts.end after
  pub is_last : after ≢ next.Page
  pub pages_are : report.pages.items ≡ others ++ page.facts ∷ []
  pub told_is : report.told.items ≡ lines ++ page_lines (before + 1) page.told.items
  pub complete_is : report.is_complete ≡ (complete && page.is_complete)
  pub end_is : report.end
      ≡ file_end (before + 1) (have_damage report.pages.items) (is_silent report.told.items) page.facts.end after

-- what is reported of a file with more pages than these: of each of them what `decode` writes of it alone, and that more come
pub record EndsBefore (most : ℕ) (options : DecodeOptions) (form : PageForm) (octets : List ℕ) (report : FileReport) : Type 0 where
  pub later : List ℕ
  pub complete : Bool
  pub pages : ArePagesTo options form octets most later report.pages.items report.told.items complete
  pub end_is : report.end ≡ file.More most
  pub lacks : report.is_complete ≡ false

-- what is reported of a file of which at most so many pages are decoded
abbrev pub EndsWithin : ℕ → DecodeOptions → PageForm → List ℕ → FileReport → Type 0
EndsWithin most options form octets report = EndsAs options form octets report ⊎ EndsBefore most options form octets report

-- this is said of a file of which no page is read, and nothing else is reported
abbrev pub IsSaid : FileEnd → FileReport → Type 0
IsSaid end report = (report.end ≡ end) × (report.told.items ≡ []) × (report.is_complete ≡ false) × (report.pages.items ≡ [])

-- what is asked for of each page: what is reported of it is lines, also where the file has a record
abbrev pub as_lines : DecodeOptions → DecodeOptions
as_lines options = record options { records = false }

-- the report of a file whose pages are decoded in a form, or of one of which this is said
abbrev pub EndsBy : EachCommand → List ℕ → Result PageForm FileEnd → FileReport → Type 0
EndsBy command octets (Ok form) report = EndsWithin command.most_pages (as_lines command.options) form octets report
EndsBy command octets (Err end) report = IsSaid end report

-- the report of a file of these octets: all pages have the form that is given, or that which `identify` says
abbrev pub EndsIn : EachCommand → List ℕ → FileReport → Type 0
EndsIn command octets report = (form : Result PageForm FileEnd) × IsFormOf command.form command.likely command.fine octets form
    × EndsBy command octets form report

-- the report of a file: it was read, and its pages decoded and written; or its name isn't UTF-8, or it can't be read
abbrev pub IsFileReport : EachCommand → FileReport → Type 0
IsFileReport command report = ((octets : List ℕ) × (length octets ≤ command.most_octets) × EndsIn command octets report)
    ⊎ (IsSaid file.NoText report ⊎ ((fault : ToolFault) × IsSaid (file.Failed fault) report))

-- ---- what is said

-- every page of a file has its end, and no row is repaired or missing: `decode` writes nothing of any page
abbrev pub ends_whole : FileEnd → Bool
ends_whole (file.Whole pages) = true
ends_whole end = false

-- the fault with which a file ends
abbrev pub fault_of : FileEnd → Option ToolFault
fault_of (file.Cut number row fault last) = Some fault
fault_of (file.Lost number fault last) = Some fault
fault_of (file.NotWritten number fault) = Some fault
fault_of (file.Failed fault) = Some fault
fault_of end = None

-- what is said of the pages after one, by whether it is known that none follows
abbrev pub after_words : Bool → List ℕ
after_words true = []
after_words false = codes "; a page after it is not looked for"

-- what is said of rows of T.4 without EOLs, as `identify` says it
abbrev pub rows_words : NoEols → List ℕ
rows_words said = codes "T.4 without EOLs (TIFF compression 2), " ++ (order_name said.order ++ (codes ", width " ++ (decimal said.width
    ++ (codes ", " ++ (decimal said.rows ++ codes " rows: not read; try tiffcp -c g4 on its TIFF")))))

-- what is said of a file
abbrev pub end_text : FileEnd → List ℕ
end_text (file.Whole pages) = codes "whole " ++ (decimal pages ++ codes " pages")
end_text (file.NoEnd pages) = decimal pages ++ codes " pages, and one or more has no end"
end_text (file.More pages) = decimal pages ++ codes " pages, and more follow that weren't asked for"
end_text (file.Mended pages) = decimal pages ++ codes " pages, and one or more is damaged"
end_text (file.Repaired number repaired last) = codes "repaired " ++ (decimal repaired ++ (codes " rows of page "
    ++ (decimal number ++ after_words last)))
end_text (file.Cut number row fault last) = codes "cut at row " ++ (decimal row ++ (codes " of page " ++ (decimal number
    ++ (codes ": " ++ (fault_text fault ++ after_words last)))))
end_text (file.Lost number fault last) = codes "page " ++ (decimal number
    ++ (codes " is not read: " ++ (fault_text fault ++ after_words last)))
end_text (file.NotWritten number fault) = codes "page " ++ (decimal number ++ (codes " is not written: " ++ fault_text fault))
end_text (file.NoFax name) = codes "no fax: " ++ name.now
end_text file.TwoDims = codes "not read: T.4 in two dimensions (MR)"
end_text (file.NoEols said) = rows_words said
end_text file.NoWidth = codes "the width is not known: identify names several; give one of them by --width"
end_text file.Nothing = codes "not read: identify may tell what it is"
end_text file.NoText = codes "its name isn't UTF-8"
end_text (file.Failed fault) = fault_text fault

-- the words of a fault under the line of its file, if they are shown
abbrev pub words_line : Option (List ℕ) → List ℕ
words_line None = []
words_line (Some text) = codes "    " ++ (text ++ codes "\n")

-- the line that says what of a file's name isn't in the names of its images, if it has some
abbrev pub left_out_line : List ℕ → Bool → List ℕ
left_out_line name false = []
left_out_line name true = cond (has_left_out name) (codes "    the names of its images have no leading / and no ..\n") []

-- The line of a file of this name with images or without, and under it, each after four spaces, what is reported of its pages, what of its
-- name is left out, and the words of its fault.
abbrev pub each_text : List ℕ → FileEnd → List ℕ → Bool → Option (List ℕ) → List ℕ
each_text name end told images text = (shown_name name ++ (codes ": " ++ (end_text end ++ codes "\n")))
    ++ (with_front (codes "    ") told ++ (left_out_line name images ++ words_line text))

-- the record of a file without a fault, or whose words aren't shown: without `says` if nothing is reported of its pages
abbrev pub plain_record : List ℕ → FileEnd → List ℕ → Bool → Data
plain_record name end told true = object (member (codes "file") (words name) (member (codes "is") (words (end_text end))
    (member (codes "whole") (boolean (ends_whole end)) no_members)))
plain_record name end told false = object (member (codes "file") (words name) (member (codes "is") (words (end_text end))
    (member (codes "says") (words told) (member (codes "whole") (boolean (ends_whole end)) no_members))))

-- the record of a file with a fault of this number and these words, of whose pages something is reported
abbrev pub said_record : ℕ → List ℕ → List ℕ → List ℕ → Bool → List ℕ → Data
said_record number name is told whole text = object (member (codes "fault") (count number) (member (codes "file") (words name)
    (member (codes "is") (words is) (member (codes "says") (words told) (member (codes "whole") (boolean whole)
    (member (codes "words") (words text) no_members))))))

-- the record of a file with a fault of this number and these words
abbrev pub fault_record : List ℕ → FileEnd → List ℕ → ℕ → List ℕ → Bool → Data
fault_record name end told number text true = object (member (codes "fault") (count number) (member (codes "file") (words name)
    (member (codes "is") (words (end_text end)) (member (codes "whole") (boolean (ends_whole end))
    (member (codes "words") (words text) no_members)))))
fault_record name end told number text false = said_record number name (end_text end) told (ends_whole end) text

-- the record of a file by its fault and that fault's words, if both are there
abbrev pub record_by : List ℕ → FileEnd → List ℕ → Option ToolFault → Option (List ℕ) → Data
record_by name end told (Some fault) (Some text) = fault_record name end told (number_of (kind_of fault)) text (is_silent told)
record_by name end told fault text = plain_record name end told (is_silent told)

-- the record of a file of this name, without its pages
abbrev pub file_record : List ℕ → FileEnd → List ℕ → Option (List ℕ) → Data
file_record name end told text = record_by name end told (fault_of end) text

-- the format of a file that isn't read, if it is known, as a record of `identify` has it
abbrev pub not_read : FileEnd → Data
not_read (file.NoFax name) = words name.now
not_read file.TwoDims = words (codes "MR")
not_read (file.NoEols said) = words (format_name (unread.NoEols said))
not_read end = null

-- the records of the pages of a file that are read in a way; without one it has none
abbrev pub pages_in : Option PageForm → List PageFacts → Data
pages_in None pages = array no_items
pages_in (Some form) pages = page_records form pages

-- the parts of a file's name that aren't in the names of its images, if it has some
abbrev pub left_out : List ℕ → Bool → Data
left_out name false = array no_items
left_out name true = array (items_of (left_out_words name))

-- a record with what of a file's name is left out, with the format of a file that isn't read, and with its pages
abbrev pub with_pages : Data → Data → Data → Data → Data
with_pages left format pages (object members) =
    object (put (codes "pages") pages (put (codes "not_read") format (put (codes "left_out") left members)))
with_pages left format pages other = other

-- the record of a file of this name
abbrev pub each_record : List ℕ → FileReport → Option (List ℕ) → Data
each_record name report text = with_pages (left_out name (has_images report.pages.items)) (not_read report.end)
    (pages_in report.form report.pages.items) (file_record name report.end report.told.items text)

-- ---- what is printed

-- what is printed of a file of this name: a record, or lines
abbrev pub report_text : Bool → List ℕ → FileReport → Option (List ℕ) → List ℕ
report_text true name report text = record_line (each_record (record_name name) report text)
report_text false name report text = each_text name report.end report.told.items (has_images report.pages.items) text

-- the words of a fault, which may be shown, or none of a file that has no fault
abbrev pub MayHaveWords : FileEnd → Option (List ℕ) → Type 0
MayHaveWords end text = fault_of end ≡ None → text ≡ None

-- these octets are printed of a file of this name, whose report is complete or not
abbrev pub IsReported : EachCommand → Bool → List ℕ → List ℕ → Bool → Type 0
IsReported command json name printed complete = (report : FileReport) × (text : Option (List ℕ)) × IsFileReport command report
    × MayHaveWords report.end text × (printed ≡ report_text json name report text) × (complete ≡ report.is_complete)

-- the files that a command names, and then those of its list
abbrev pub names_of : EachCommand → List (List ℕ) → List (List ℕ)
names_of command listed = map string_bytes command.files.items ++ listed

-- a writer gets what is printed of all files of a command, those that it names and those that its list names, and nothing else
abbrev pub PrintsEach : EachCommand → Bool → Option (List ℕ) → Option (List ℕ) → Bool → Type 0
PrintsEach command json before after complete = (listed : List (List ℕ)) × PrintsAll (IsReported command json) (names_of command listed) before after complete
    × (command.list ≡ None → listed ≡ [])

-- What is reported of each file was printed, of those that a command names and then of those that its list names, in their order, as lines or
-- as records; and all was done if all are complete. Or standard output failed, or the list, or memory. That these octets are what standard
-- output got is said of the function that prints them, over any writer.
abbrev pub EachGives : EachCommand → Result Completeness ToolFault → Type 0
EachGives command (Ok completeness) = (json complete : Bool) × (listed : List (List ℕ)) × (text : List ℕ)
    × ArePrinted (IsReported command json) (names_of command listed) text complete × (command.list ≡ None → listed ≡ [])
    × (completeness ≡ completeness_of complete)
EachGives command (Err fault) = IsOutside fault
