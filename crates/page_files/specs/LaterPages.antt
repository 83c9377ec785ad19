-- Pages of a file one after another.
use Rattle.std.specs.Prelude.{ℕ, zero, suc, ◌≡◌, ◌≢◌, ◌≤◌, ◌<◌, ◌+◌, ◌-◌, ◌*◌, ◌/◌, ◌%◌, ◌⊎◌, Bool, true, false, List, [], ◌++◌}
use Rattle.std.specs.Prelude.{Option, Some, None, Result, Err, ◌&&◌, ◌||◌, codes, cond, drop, length, nat_lt, slice_index}
use Rattle.std.specs.Fmt.{decimal}
use Rattle.std.specs.Int.{div_ceil}
use Rattle.std.specs.List.{AllByRecursion}
use Rattle.raster.specs.declared.packed.Order.{Order}
use Rattle.raster.specs.declared.row.Color.{Color}
use Rattle.raster.specs.Packed.{bit_in, bits_of}
use Rattle.raster.specs.Pages.{PagePixels}
use Rattle.page_code.specs.declared.Coding.{Coding}
use Rattle.page_code.specs.declared.Coding.TheVariants.{OneDim, T6}
use Rattle.page_code.specs.Codings.{ReadsIn}
use Rattle.page_code.specs.declared.page_reader.RefusedCode.{RefusedCode}
use Rattle.page_code.specs.OneDimension.Fronts.{CodeBegins}
use Rattle.page_code.specs.OneDimension.Pages.{AreZeros, eol_word, eol_words}
use Rattle.page_files.specs.Answers.{AnswersDecode}
use Rattle.page_files.specs.DecodeRecords.{as_told, begins_record}
use Rattle.page_files.specs.Marks.{end_of_mark}
use Rattle.page_files.specs.Decodings.{IsKept, IsOfKept, RefusesDecoding, broken_asked}
use Rattle.faults.specs.RecordLines.{record_line}
use Rattle.page_files.specs.CodedPages.{RefusesCode, WritesPage}
use Rattle.faults.specs.declared.fault.ToolFault.{ToolFault}
use Rattle.faults.specs.declared.fault.ToolFault.TheVariants.{No}
use Rattle.page_files.specs.declared.later_pages.Reached.{Reached}
use Rattle.page_files.specs.declared.later_pages.Reached.TheVariants.{Page, End, Broken}
use Rattle.page_files.specs.declared.options.DecodeOptions.{DecodeOptions}
use Rattle.page_files.specs.declared.options.PageForm.{PageForm}

-- The bits begin with EOLs, fill included, and after the last of them comes neither an EOL nor only 0 bits. A page begins with that last
-- EOL (ITU-T T.4, 4.1.2), without its fill. The bits themselves begin at the bit `used`.
pub record BeginsByEol (used start : ℕ) (x : List Bool) : Type 0 where
  pub before : List ℕ
  pub last : ℕ
  pub rest : List Bool
  pub long : AllByRecursion (λ count. 11 ≤ count) before
  pub long_last : 11 ≤ last
  pub split : x ≡ eol_words before ++ (eol_word last ++ rest)
  pub code : CodeBegins rest
  pub start_is : start ≡ used + length (eol_words before) + (last - 11)

-- any number of EOLs, and then only 0 bits or nothing
abbrev pub NothingLeft : List Bool → Type 0
NothingLeft x = (eols : List ℕ) × (rest : List Bool) × AllByRecursion (λ count. 11 ≤ count) eols × (x ≡ eol_words eols ++ rest) × AreZeros
    rest

-- The bit at which the page begins that follows one of T.4, if the bits from `used` on are these: that of the last EOL that they begin
-- with, without its fill; in the next octet if they begin with no EOL. No page follows if only EOLs and 0 bits are left.
abbrev pub IsLaterOneDim : ℕ → List Bool → Option ℕ → Type 0
IsLaterOneDim used x (Some start) = BeginsByEol used start x ⊎ (CodeBegins x × (start ≡ 8 * div_ceil used 8))
IsLaterOneDim used x None = NothingLeft x

-- The bit at which the page begins that follows one of T.6: that of the first octet from this one on that isn't 0. No page follows if there
-- is none.
abbrev pub IsLaterT6 : ℕ → List ℕ → Option ℕ → Type 0
IsLaterT6 from octets (Some start) = (at : ℕ) × (start ≡ 8 * at) × (from ≤ at) × (at < length octets) × (slice_index octets at ≢ 0)
    × ((k : ℕ) → from ≤ k → k < at → slice_index octets k ≡ 0)
IsLaterT6 from octets None = (k : ℕ) → from ≤ k → k < length octets → slice_index octets k ≡ 0

-- the bit at which the page begins that follows one of this code with the first `used` bits of the octets
abbrev pub IsLaterIn : Coding → Order → List ℕ → ℕ → Option ℕ → Type 0
IsLaterIn OneDim order octets used start = IsLaterOneDim used (drop used (bits_of order octets)) start
IsLaterIn T6 order octets used start = IsLaterT6 (div_ceil used 8) octets start

-- the bit at which the page begins that follows the page of the first `used` bits, if one follows
abbrev pub IsLater : PageForm → List ℕ → ℕ → Option ℕ → Type 0
IsLater form octets used start = IsLaterIn form.coding form.order octets used start

-- `later` is the octets from the one with this bit on, with 0 bits in place of those before the bit
pub record IsFrom (order : Order) (start : ℕ) (octets later : List ℕ) : Type 0 where
  pub size : length later + start / 8 ≡ length octets
  pub fill : (k : ℕ) → k < start % 8 → bit_in order later k ≡ false
  pub same : (k : ℕ) → start % 8 ≤ k → bit_in order later k ≡ bit_in order octets (8 * (start / 8) + k)

-- the octets begin with a page's code of `used` bits
abbrev pub BeginsWith : PageForm → List ℕ → ℕ → Type 0
BeginsWith form octets used = (rows : List (List Color)) × ReadsIn form.coding form.width (bits_of form.order octets) rows used

-- The octets begin with a page's code. Either another page follows and its octets are `later`, or none follows. `IsLater` says at which bit
-- it begins; the bits before it in its first octet are 0 in `later`.
abbrev pub AfterPage : Bool → PageForm → List ℕ → List ℕ → Type 0
AfterPage true form octets later = (used : ℕ) × (start : ℕ) × BeginsWith form octets used × IsLater form octets used (Some start)
    × IsFrom form.order start octets later
AfterPage false form octets later = (used : ℕ) × BeginsWith form octets used × IsLater form octets used None × (later ≡ octets)

-- The mark that ends a page's code is found in the octets. Either another page follows it and its octets are `later`, or none follows.
abbrev pub AfterMark : Bool → PageForm → List ℕ → List ℕ → Type 0
AfterMark true form octets later = (used : ℕ) × (start : ℕ) × (end_of_mark form octets ≡ Some used)
    × IsLater form octets used (Some start) × IsFrom form.order start octets later
AfterMark false form octets later = (used : ℕ) × (end_of_mark form octets ≡ Some used) × IsLater form octets used None × (later ≡ octets)

-- the octets begin with no page's code
abbrev pub IsBroken : PageForm → List ℕ → Type 0
IsBroken form octets = (fault : ToolFault) × RefusesCode form.coding form.order form.width octets fault

-- A page is passed, and another one follows or none: after one that is read to its end; and if damaged pages are asked for (the first truth
-- value), after one that isn't, by the mark of its end.
abbrev pub Passes : Bool → Bool → PageForm → List ℕ → List ℕ → Type 0
Passes mends more form octets later = AfterPage more form octets later
    ⊎ ((mends ≡ true) × IsBroken form octets × AfterMark more form octets later)

-- it isn't known where the page ends that octets begin with: the mark of its end isn't found, if it is looked for
abbrev pub HasNoMark : Bool → PageForm → List ℕ → Type 0
HasNoMark mends form octets = mends ≡ true → end_of_mark form octets ≡ None

-- damaged pages are asked for
abbrev pub asks_damaged : DecodeOptions → Bool
asks_damaged options = options.salvage || options.repair

-- `later` is the octets of the page that follows this number of pages
abbrev pub AreAfter : Bool → PageForm → List ℕ → ℕ → List ℕ → Type 0
AreAfter mends form octets zero later = later ≡ octets
AreAfter mends form octets (suc pages) later = (before : List ℕ) × AreAfter mends form octets pages before
    × Passes mends true form before later

-- What follows a number of pages: another page, whose octets are `later`; or one of them is the last one, with its number; or one of them
-- can't be read to its end, with its number and its fault, and it isn't known where it ends.
abbrev pub Reaches : Bool → PageForm → ℕ → List ℕ → List ℕ → Reached → Type 0
Reaches mends form pages octets later Page = AreAfter mends form octets pages later
Reaches mends form pages octets later (End count) = (1 ≤ count) × (count ≤ pages) × AreAfter mends form octets (count - 1) later
    × Passes mends false form later later
Reaches mends form pages octets later (Broken number fault) = (1 ≤ number) × (number ≤ pages)
    × AreAfter mends form octets (number - 1) later × RefusesCode form.coding form.order form.width later fault
    × HasNoMark mends form later

-- what is kept beside this: the refusal of the page that can't be read, and otherwise nothing
abbrev pub KeepsReached : Option RefusedCode → Reached → Type 0
KeepsReached kept (Broken number fault) = IsOfKept kept fault
KeepsReached kept (End count) = kept ≡ None
KeepsReached kept Page = kept ≡ None

-- What is kept beside the fault of a page: the refusal that caused it. With `FewerPages` (28), or if reading, writing or memory failed,
-- there may be none.
abbrev pub KeepsPage : Option RefusedCode → ToolFault → Type 0
KeepsPage kept fault = (fault ≡ No 28) ⊎ IsKept kept fault

-- the line of the octet at which a page begins
abbrev pub begins_line : ℕ → ℕ → List ℕ
begins_line page octet = codes "page " ++ (decimal page ++ (codes " begins at octet " ++ (decimal octet ++ codes "\n")))

-- with `--verbose`, and not for the first page: the octet at which the page begins, as a line or a record
abbrev pub begins_text : Bool → Bool → ℕ → ℕ → List ℕ
begins_text verbose records page octet = cond (verbose && nat_lt 1 page)
    (cond records (record_line (begins_record page octet)) (begins_line page octet)) []

-- the line of how many pages a file has
abbrev pub pages_line : ℕ → List ℕ
pages_line count = codes "pages in the file: " ++ (decimal count ++ codes "\n")

-- the line of a page that can't be read to its end
abbrev pub broken_line : ℕ → ℕ → List ℕ
broken_line number octet = codes "page " ++ (decimal number ++ (codes " begins at octet " ++ (decimal octet
    ++ codes " and can't be read to its end\n")))

-- what `decode` gives of the octets of a page with this number, after the line of the octet at which it begins
pub record AnswersReached (form : PageForm) (options : DecodeOptions) (page octet : ℕ) (octets : List ℕ) (decoded : PagePixels)
    (told : List ℕ) (end : Result Bool ToolFault) : Type 0 where
  pub lines : List ℕ
  pub answers : (image : List ℕ) → WritesPage decoded (Some []) (Some image) → AnswersDecode form options octets image lines end
  pub told_is : told ≡ begins_text options.verbose options.records page octet ++ lines

-- a page with this number that is refused: no row, the line of the octet at which it begins, and its fault
pub record RefusesReached (form : PageForm) (options : DecodeOptions) (page octet : ℕ) (octets : List ℕ) (decoded : PagePixels)
    (told : List ℕ) (end : Result Bool ToolFault) : Type 0 where
  pub fault : ToolFault
  pub refuses : RefusesDecoding (broken_asked options.salvage options.repair) form octets fault
  pub rowless : decoded.rows ≡ []
  pub told_is : told ≡ begins_text options.verbose options.records page octet
  pub end_is : end ≡ Err fault

-- What is reported of a page of a file. If it is there, what `decode` gives of its octets, or its refusal. If the file ends before it, the
-- line with the number of pages, and `FewerPages` (28). If a page before it can't be read to its end, the line that names that page, and
-- its fault.
abbrev pub GivesReached : PageForm → DecodeOptions → ℕ → List ℕ → List ℕ → PagePixels → List ℕ → Result Bool ToolFault → Reached → Type 0
GivesReached form options page octets later decoded told end Page =
    AnswersReached form options page (length octets - length later) later decoded told end
    ⊎ RefusesReached form options page (length octets - length later) later decoded told end
GivesReached form options page octets later decoded told end (End count) =
    (decoded.rows ≡ []) × (told ≡ as_told options.records (pages_line count)) × (end ≡ Err (No 28))
GivesReached form options page octets later decoded told end (Broken number fault) =
    (decoded.rows ≡ []) × (told ≡ as_told options.records (broken_line number (length octets - length later))) × (end ≡ Err fault)

-- Decodes page `page` of a file, counted from 1: what `decode` gives of its octets, and with `--verbose` first the octet at which they
-- begin (not for the first page), also where it is refused. If the file has fewer pages, the line with their number, and `FewerPages` (28).
-- If a page before it can't be read to its end, and its end isn't known, the line that names that page, and its fault.
pub record AnswersPage (form : PageForm) (options : DecodeOptions) (page : ℕ) (octets later : List ℕ) (decoded : PagePixels)
    (told : List ℕ) (end : Result Bool ToolFault) : Type 0 where
  pub reached : Reached
  pub reaches : Reaches (asks_damaged options) form (page - 1) octets later reached
  pub gives : GivesReached form options page octets later decoded told end reached
