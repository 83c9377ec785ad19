-- What `faxtool identify` says of octets: the format that they begin as, and in which ways they read as a page.
use Rattle.std.specs.Prelude.{ℕ, ◌≡◌, ◌+◌, ◌<◌, ◌⊎◌, Bool, true, false, List, [], ◌∷◌, ◌++◌, ◌||◌, ◌&&◌, Option, Some, None}
use Rattle.std.specs.Prelude.{Result, Ok, Err, All, MatchResult, codes, cond, drop, find, flat_map, if◌then◌else◌, is_some, length, map, nat_eq}
use Rattle.std.specs.Prelude.{nat_le, nat_lt, not, sum, take}
use Rattle.std.specs.Fmt.{decimal}
use Rattle.std.specs.Io.KnownBytes.{Appends}
use Rattle.std.specs.Str.{bytes_eq}
use Rattle.raster.specs.declared.packed.Order.{Order}
use Rattle.raster.specs.declared.packed.Order.TheVariants.{LsbFirst, MsbFirst}
use Rattle.raster.specs.declared.row.Color.{Color}
use Rattle.raster.specs.Packed.{bits_of}
use Rattle.raster.specs.Pixels.{IsWidth, max_width}
use Rattle.page_code.specs.declared.Coding.{Coding}
use Rattle.page_code.specs.declared.Coding.TheVariants.{OneDim, T6}
use Rattle.page_code.specs.Codings.{ReadsIn}
use Rattle.page_code.specs.OneDimension.Repairs.{IsFirstLine, IsRepair}
use Rattle.run_tables.specs.RowLaws.{ReadsAsRow}
use Rattle.page_code.specs.RowsSoFar.{AreWholeRows}
use Rattle.page_files.specs.AgreedWidths.{AgreesOn}
use Rattle.page_files.specs.Answers.{octets_after}
use Rattle.page_files.specs.CodedPages.{RefusesCode}
use Rattle.page_files.specs.NoEols.{FirstAlone}
use Rattle.page_files.specs.OwnWidths.{SaysTwoDim, SaysWidth}
use Rattle.faults.specs.FaultKinds.{kind_of}
use Rattle.faults.specs.Faults.{fault_text}
use Rattle.faults.specs.declared.fault.ToolFault.{ToolFault}
use Rattle.faults.specs.declared.fault.ToolFault.TheVariants.{No}
use Rattle.faults.specs.declared.fault_kind.FaultKind.{FaultKind}
use Rattle.faults.specs.declared.fault_kind.FaultKind.TheVariants.{MissingEofb}
use Rattle.page_files.specs.declared.identify.Fit.{Fit}
use Rattle.page_files.specs.declared.identify.Fit.TheVariants.{Whole, NoEofb, Early, Mended, Begun}
use Rattle.page_files.specs.declared.identify.Identity.{Identity}
use Rattle.page_files.specs.declared.identify.Identity.TheVariants.{Known, Several, Nothing}
use Rattle.page_files.specs.declared.identify.Said.{Said}
use Rattle.page_files.specs.declared.identify.Tried.{Tried}
use Rattle.page_files.specs.declared.options.PageForm.{PageForm}

-- ---- formats

-- bits of a line: three octets of flags, 01111110, from one of their bits on
abbrev pub flags_from : ℕ → List ℕ × List ℕ
flags_from octet = (octet ∷ octet ∷ octet ∷ [], codes "bits of a line (HDLC flags)")

-- The known formats: the octets that a file of each begins with, and its name. TIFF, BigTIFF, PDF, PostScript, PNG, those of Netpbm, JPEG,
-- GIF, SFF, DCX, gzip, ZIP, JBIG (ITU-T T.82, 6.2.1: one layer, plane 1, a width below 65,536) and bits of a line.
abbrev pub formats : List (List ℕ × List ℕ)
formats = (73 ∷ 73 ∷ 42 ∷ 0 ∷ [], codes "TIFF") ∷ (77 ∷ 77 ∷ 0 ∷ 42 ∷ [], codes "TIFF")
    ∷ (73 ∷ 73 ∷ 43 ∷ 0 ∷ [], codes "BigTIFF") ∷ (77 ∷ 77 ∷ 0 ∷ 43 ∷ [], codes "BigTIFF")
    ∷ (codes "%PDF-", codes "PDF") ∷ (codes "%!PS", codes "PostScript")
    ∷ (137 ∷ 80 ∷ 78 ∷ 71 ∷ 13 ∷ 10 ∷ 26 ∷ 10 ∷ [], codes "PNG")
    ∷ (codes "P1", codes "plain PBM") ∷ (codes "P2", codes "plain PGM") ∷ (codes "P3", codes "plain PPM")
    ∷ (codes "P4", codes "PBM") ∷ (codes "P5", codes "PGM") ∷ (codes "P6", codes "PPM") ∷ (codes "P7", codes "PAM")
    ∷ (255 ∷ 216 ∷ 255 ∷ [], codes "JPEG") ∷ (codes "GIF8", codes "GIF")
    ∷ (codes "Sfff", codes "SFF") ∷ (177 ∷ 104 ∷ 222 ∷ 58 ∷ [], codes "DCX")
    ∷ (31 ∷ 139 ∷ 8 ∷ [], codes "gzip") ∷ (80 ∷ 75 ∷ 3 ∷ 4 ∷ [], codes "ZIP")
    ∷ (0 ∷ 0 ∷ 1 ∷ 0 ∷ 0 ∷ 0 ∷ [], codes "JBIG")
    ∷ map flags_from (126 ∷ 63 ∷ 159 ∷ 207 ∷ 231 ∷ 243 ∷ 249 ∷ 252 ∷ [])

-- the octets begin with others
abbrev pub begin_with : List ℕ → List ℕ → Bool
begin_with first octets = bytes_eq first (take (length first) octets)

-- the name of the first format of a list as which the octets begin
abbrev pub format_among : List (List ℕ × List ℕ) → List ℕ → Option (List ℕ)
format_among [] octets = None
format_among (format ∷ more) octets = if begin_with format.0 octets then Some format.1 else format_among more octets

-- the name of the first known format whose first octets these octets begin with
abbrev pub format_of : List ℕ → Option (List ℕ)
format_of octets = format_among formats octets

-- ---- ways

-- the widths that are tried where octets say none: those that a call carries, those of A5 and A6 (T.30, table 2), those of Letter and A4 at
-- 200 dots an inch
abbrev pub tried_widths : List ℕ
tried_widths = 1728 ∷ 2048 ∷ 2432 ∷ 1216 ∷ 864 ∷ 1700 ∷ 1654 ∷ []

-- the width is one of these
abbrev pub is_among : ℕ → List ℕ → Bool
is_among width widths = is_some (find (nat_eq width) widths)

-- a width that octets say, if they say one, is one of those that are tried where they say none
abbrev pub is_usual : Option ℕ → Bool
is_usual (Some width) = is_among width tried_widths
is_usual None = false

-- The least rows by which octets are known as T.4, by the widths that they say as T.4 and as T.4 in two dimensions. One row comes by chance
-- where a page of T.4 in two dimensions begins: the 1 before its first row and the row's code words are mostly code words of another row
-- too. So one is enough only if EOLs lie about a row of a usual width, and not about one of two dimensions.
abbrev pub least_lines : Option ℕ → Option ℕ → ℕ
least_lines own two = cond (is_usual own && not (is_usual two)) 1 2

-- a way to read octets as a page: a code, an order of bits and a width
abbrev pub form_in : Coding → Order → ℕ → PageForm
form_in coding order width = record { coding = coding; order = order; width = width; fine = false }

-- the ways of one code and one order of bits, in these widths
abbrev pub forms_in : Coding → Order → List ℕ → List PageForm
forms_in coding order widths = map (form_in coding order) widths

-- the ways in T.4: at the width that octets say themselves in this order of bits, if a page can have it; in these widths, if they say none
abbrev pub own_forms : List ℕ → Order → Option ℕ → List PageForm
own_forms widths order None = forms_in OneDim order widths
own_forms widths order (Some width) = cond (not (nat_eq width 0) && not (nat_lt max_width width)) (form_in OneDim order width ∷ []) []

-- The ways that are tried, in this order: T.4, most and then least significant bit first; and T.6, most and then least significant bit
-- first, for each in these widths. The law `own_widths` says that a page that begins with an EOL is missed in no other width.
abbrev pub tried_forms : List ℕ → Option ℕ → Option ℕ → List PageForm
tried_forms widths msb lsb = own_forms widths MsbFirst msb ++ (own_forms widths LsbFirst lsb
    ++ (forms_in T6 MsbFirst widths ++ forms_in T6 LsbFirst widths))

-- what octets say of their own width in T.4, in this order of bits
abbrev pub SaysOwn : Order → List ℕ → Option ℕ → Type 0
SaysOwn order octets own = SaysWidth (bits_of order octets) own

-- How far octets read in one way: they begin with the code of a page with so many rows and bits; or with no page's code, with this fault,
-- after so many whole rows.
abbrev pub ReadsTo : List ℕ → PageForm → ℕ → Result ℕ ToolFault → Type 0
ReadsTo octets form rows end = MatchResult end
    (λ bits. (page : List (List Color)) × ReadsIn form.coding form.width (bits_of form.order octets) page bits × (rows ≡ length page))
    (λ fault. RefusesCode form.coding form.order form.width octets fault × ((page : List (List Color))
    × AreWholeRows form.coding form.width (bits_of form.order octets) page × (rows ≡ length page)))

-- a row of the width begins at the place of the first line
abbrev pub HasFirstRow : ℕ → List Bool → Type 0
HasFirstRow width bits = (start used : ℕ) × (row : List Color) × IsFirstLine bits start × ReadsAsRow width (drop start bits) row used

-- How many rows `decode --repair` gives of T.4, if it copies none. None if it copies a row, or refuses the octets: no page with a row is
-- given without a copied one. The two say the same: bits give one page at most (law `OneRepair`), and `decode --repair` refuses it only if
-- no row of it is read.
abbrev pub MendsTo : Order → ℕ → List ℕ → Option ℕ → Type 0
MendsTo order width octets (Some rows) =
    (page : List (List Color)) × IsRepair width (bits_of order octets) page [] × (rows ≡ length page) × (0 < rows)
MendsTo order width octets None = (page : List (List Color)) → IsRepair width (bits_of order octets) page [] → page ≡ []

-- `decode --repair` is tried on what is refused in T.4
abbrev pub IsMended : List ℕ → PageForm → Coding → Result ℕ ToolFault → Option ℕ → Type 0
IsMended octets form coding (Ok bits) mended = mended ≡ None
IsMended octets form OneDim (Err fault) mended = MendsTo form.order form.width octets mended
IsMended octets form T6 (Err fault) mended = mended ≡ None

-- the width of this way is a page's
abbrev pub IsWay : Tried → Type 0
IsWay tried = IsWidth tried.form.width

-- the result of this way is right
abbrev pub IsTried : List ℕ → Tried → Type 0
IsTried octets tried = IsWay tried × ReadsTo octets tried.form tried.rows tried.end × IsMended octets tried.form tried.form.coding tried.end tried.mended

-- the way that was tried
abbrev pub form_of : Tried → PageForm
form_of tried = tried.form

-- the octets were tried in the ways of T.4 in these widths, in their order, and the result of each is right
pub record AreOneDimTried (widths : List ℕ) (octets : List ℕ) (tried : List Tried) (own : Said) : Type 0 where
  pub msb_is : SaysOwn MsbFirst octets own.msb
  pub lsb_is : SaysOwn LsbFirst octets own.lsb
  pub forms_are : map form_of tried ≡ own_forms widths MsbFirst own.msb ++ own_forms widths LsbFirst own.lsb
  pub each : All (IsTried octets) tried

-- the octets were tried in all ways of the list in these widths, in its order, and the result of each is right
pub record AreTried (widths : List ℕ) (octets : List ℕ) (tried : List Tried) (own : Said) : Type 0 where
  pub msb_is : SaysOwn MsbFirst octets own.msb
  pub lsb_is : SaysOwn LsbFirst octets own.lsb
  pub forms_are : map form_of tried ≡ tried_forms widths own.msb own.lsb
  pub each : All (IsTried octets) tried

-- ---- the width on which lines agree

-- the way of T.4 in this order of bits, in the width on which lines agree, and its result is right; none, if no lines agree
abbrev pub IsAgreedIn : List ℕ → Order → List ℕ → Option Tried → Type 0
IsAgreedIn widths order octets (Some one) =
    IsTried octets one × (one.form ≡ form_in OneDim order one.form.width) × AgreesOn widths order octets (Some one.form.width)
IsAgreedIn widths order octets None = AgreesOn widths order octets None

-- The way of T.4 in the width on which lines agree: with the most significant bit first, or else with the least. Octets that read as no page
-- are known as T.4 by it, also if no row of the page is read: then its first line is damaged.
abbrev pub IsAgreed : List ℕ → List ℕ → Option Tried → Type 0
IsAgreed widths octets agreed = ((one : Tried) × IsAgreedIn widths MsbFirst octets (Some one) × (agreed ≡ Some one))
    ⊎ (IsAgreedIn widths MsbFirst octets None × IsAgreedIn widths LsbFirst octets agreed)

-- ---- what is written

-- a code in words
abbrev pub coding_name : Coding → List ℕ
coding_name OneDim = codes "T.4"
coding_name T6 = codes "T.6"

-- an order of bits in words
abbrev pub order_name : Order → List ℕ
order_name MsbFirst = codes "most significant bit first"
order_name LsbFirst = codes "least significant bit first"

-- the way in words
abbrev pub form_words : PageForm → List ℕ
form_words form = coding_name form.coding ++ (codes ", " ++ (order_name form.order ++ (codes ", width " ++ decimal form.width)))

-- the octets after a page, if there are any
abbrev pub after_words : ℕ → List ℕ
after_words count = cond (nat_eq count 0) [] (codes ", " ++ (decimal count ++ codes " octets after it"))

-- the fault says that only 0 bits, or nothing, follow the whole rows, and no EOFB
abbrev pub is_missing_eofb : FaultKind → Bool
is_missing_eofb MissingEofb = true
is_missing_eofb kind = false

-- a page of T.6 is complete except for its EOFB: it has a row or more, and then only 0 bits or nothing
abbrev pub lacks_eofb : ℕ → Result ℕ ToolFault → Bool
lacks_eofb rows (Ok bits) = false
lacks_eofb rows (Err fault) = not (nat_eq rows 0) && is_missing_eofb (kind_of fault)

-- how far octets read that `decode --repair` reads whole, or not
abbrev pub mended_words : Option ℕ → ℕ → ToolFault → List ℕ
mended_words (Some all) rows fault = codes ", " ++ (decimal all ++ codes " rows, by decode --repair\n")
mended_words None rows fault = codes ": " ++ (fault_text fault ++ (codes " after " ++ (decimal rows ++ codes " rows\n")))

-- how far the octets read: to the page's end, with its rows and the octets after it; all rows, if only EOFB is missing; or as above
abbrev pub end_words : List ℕ → ℕ → Option ℕ → Result ℕ ToolFault → List ℕ
end_words octets rows mended (Ok bits) =
    codes ", " ++ (decimal rows ++ (codes " rows" ++ (after_words (octets_after octets bits) ++ codes "\n")))
end_words octets rows mended (Err fault) = cond (lacks_eofb rows (Err fault))
    (codes ", " ++ (decimal rows ++ codes " rows, without EOFB\n")) (mended_words mended rows fault)

-- the line of one way
abbrev pub tried_line : List ℕ → Tried → List ℕ
tried_line octets tried = form_words tried.form ++ end_words octets tried.rows tried.mended tried.end

-- The octets fit a way so far: they read to a page's end, with no octet after it; to one of which only EOFB is missing; to one with octets
-- after it; `decode --repair` reads them and copies no row; or they read to no page's end, but begin with a row.
abbrev pub fits : Fit → List ℕ → ℕ → Result ℕ ToolFault → Option ℕ → Bool
fits Whole octets rows (Ok bits) mended = nat_eq (octets_after octets bits) 0
fits NoEofb octets rows (Err fault) mended = lacks_eofb rows (Err fault)
fits Early octets rows (Ok bits) mended = not (nat_eq (octets_after octets bits) 0)
fits Mended octets rows (Err fault) mended = is_some mended
fits Begun octets rows (Err fault) mended = not (nat_eq rows 0)
fits fit octets rows end mended = false

-- the octets fit this way so far
abbrev pub fits_one : Fit → List ℕ → Tried → Bool
fits_one fit octets tried = fits fit octets tried.rows tried.end tried.mended

-- the line of a way, if the octets fit it so far
abbrev pub line_of : Fit → List ℕ → Tried → List ℕ
line_of fit octets tried = cond (fits_one fit octets tried) (tried_line octets tried) []

-- a line for each way that the octets fit so far
abbrev pub lines_of : Fit → List ℕ → List Tried → List ℕ
lines_of fit octets tried = flat_map (line_of fit octets) tried

-- how many ways the octets fit so far
abbrev pub count_of : Fit → List ℕ → List Tried → ℕ
count_of fit octets tried = sum (map (λ one. cond (fits_one fit octets one) 1 0) tried)

-- how many ways read a page: to its end, or to its EOFB, or by `decode --repair`
abbrev pub count_pages : List ℕ → List Tried → ℕ
count_pages octets tried = count_of Whole octets tried + count_of Early octets tried
    + (count_of NoEofb octets tried + count_of Mended octets tried)

-- the line of a format, if it is known
abbrev pub format_line : Option (List ℕ) → List ℕ
format_line None = []
format_line (Some name) = name ++ codes ", by its first octets\n"

-- the line of an own width in T.4 that no page can have, since it is too wide
abbrev pub wide_line : Order → Option ℕ → List ℕ
wide_line order None = []
wide_line order (Some width) = cond (nat_lt max_width width)
    (codes "T.4, " ++ (order_name order ++ (codes ", width " ++ (decimal width ++ codes ": wider than 2432\n")))) []

-- the fault of octets that are neither a page nor a known format: `NoPages` (7) if there is no octet, otherwise `Unidentified` (29)
abbrev pub no_page : List ℕ → ToolFault
no_page [] = No 7
no_page (octet ∷ octets) = No 29

-- What octets are known to be that begin as a format, or as none. With no format: nothing, if no way reads a page. Known, if one way does,
-- or if of several ways one alone ends with the octets. Else several, and the width isn't known.
abbrev pub identity_of : Option (List ℕ) → List ℕ → List Tried → Identity
identity_of (Some name) octets tried = Known
identity_of None octets tried = cond (nat_eq (count_pages octets tried) 0) (Nothing (no_page octets))
    (cond (nat_eq (count_pages octets tried) 1 || nat_eq (count_of Whole octets tried) 1) Known Several)

-- one order of bits is another
abbrev pub same_order : Order → Order → Bool
same_order MsbFirst MsbFirst = true
same_order LsbFirst LsbFirst = true
same_order order other = false

-- this way reads so many rows or more of T.4 in this order of bits
abbrev pub reads_rows : Order → ℕ → Coding → Order → ℕ → Bool
reads_rows order least OneDim other rows = same_order order other && nat_le least rows
reads_rows order least T6 other rows = false

-- a way of T.4 in this order of bits reads so many rows or more
abbrev pub has_rows : Order → ℕ → List Tried → Bool
has_rows order least tried = is_some (find (λ one. reads_rows order least one.form.coding one.form.order one.rows) tried)

-- the line of a page of T.4 in two dimensions of this width
abbrev pub two_dim_text : Order → ℕ → List ℕ
two_dim_text order width =
    codes "T.4 in two dimensions (MR), " ++ (order_name order ++ (codes ", width " ++ (decimal width ++ codes ": not read\n")))

-- The line of a width in T.4 in two dimensions, which isn't read. Of such a page one row is read, the first one, since it is coded in one
-- dimension. So the line is written only if no way of T.4 in this order of bits reads as many rows as it is known by, if octets say this
-- width (the first one) of their own in T.4.
abbrev pub two_dim_line : Order → Option ℕ → List Tried → Option ℕ → List ℕ
two_dim_line order own tried None = []
two_dim_line order own tried (Some width) =
    cond (nat_lt 0 width && not (has_rows order (least_lines own (Some width)) tried)) (two_dim_text order width) []

-- what octets say of their width in T.4 in two dimensions, most and least significant bit first
abbrev pub AreTwoDim : List ℕ → Option ℕ → Option ℕ → Type 0
AreTwoDim octets msb lsb = SaysTwoDim (bits_of MsbFirst octets) msb × SaysTwoDim (bits_of LsbFirst octets) lsb

-- the line of so many rows of T.4 without EOLs of this width
abbrev pub no_eols_text : Order → ℕ → ℕ → List ℕ
no_eols_text order width rows = codes "T.4 without EOLs (TIFF compression 2), " ++ (order_name order ++ (codes ", width " ++ (decimal width
    ++ (codes ", " ++ (decimal rows ++ codes " rows: not read; try tiffcp -c g4 on its TIFF\n")))))

-- the line of rows of T.4 without EOLs, by their width and their number
abbrev pub no_eols_line : Order → Option (ℕ × ℕ) → List ℕ
no_eols_line order None = []
no_eols_line order (Some first) = cond (nat_lt 0 first.1) (no_eols_text order first.0 first.1) []

-- what rows of T.4 without EOLs octets are, most and least significant bit first
abbrev pub AreAlone : List ℕ → Option (ℕ × ℕ) → Option (ℕ × ℕ) → Type 0
AreAlone octets msb lsb = FirstAlone (bits_of MsbFirst octets) tried_widths msb × FirstAlone (bits_of LsbFirst octets) tried_widths lsb

-- The lines of what octets are that isn't read: T.4 of a width that no page can have; T.4 in two dimensions, in an order of bits in which
-- they aren't known as T.4; T.4 without EOLs.
abbrev pub unread_lines : List Tried → Said → Said → Option (ℕ × ℕ) → Option (ℕ × ℕ) → List ℕ
unread_lines tried own two msb lsb = wide_line MsbFirst own.msb ++ (wide_line LsbFirst own.lsb ++ (two_dim_line MsbFirst own.msb tried two.msb
    ++ (two_dim_line LsbFirst own.lsb tried two.lsb ++ (no_eols_line MsbFirst msb ++ no_eols_line LsbFirst lsb))))

-- these are those lines of octets, by the ways that were tried and the widths that they say themselves
abbrev pub UnreadBy : List ℕ → List Tried → Said → List ℕ → Type 0
UnreadBy octets tried own lines = (two : Said) × (msb lsb : Option (ℕ × ℕ)) × AreTwoDim octets two.msb two.lsb × AreAlone octets msb lsb
    × (lines ≡ unread_lines tried own two msb lsb)

-- What is written of nothing that is known. If lines of T.4 agree on a width, the line of its way (`.. width 1728: fault 10 at bit 20 after 0
-- rows`). If none do, first what it is that isn't read, then a line for each way that reads a first row (`.. width 1728: fault 11 at bit 3999
-- after 27 rows`).
abbrev pub TellsNothing : List ℕ → List Tried → Said → Option (List ℕ) → Option (List ℕ) → Type 0
TellsNothing octets tried own before after =
    ((one : Tried) × IsAgreed tried_widths octets (Some one) × Appends before after (tried_line octets one))
    ⊎ (IsAgreed tried_widths octets None × ((unread : List ℕ) × UnreadBy octets tried own unread
    × Appends before after (unread ++ lines_of Begun octets tried)))

-- What is written after the lines of the ways. Of several ways: that the width isn't known. Of nothing that is known: as above.
abbrev pub TellsIdentity : List ℕ → List Tried → Said → Identity → Option (List ℕ) → Option (List ℕ) → Type 0
TellsIdentity octets tried own Known before after = Appends before after []
TellsIdentity octets tried own Several before after = Appends before after (codes "the width is not known\n")
TellsIdentity octets tried own (Nothing fault) before after = TellsNothing octets tried own before after

-- The lines before that. The format, if it is known (`TIFF, by its first octets`). A line for each way that reads a page (`T.6, most
-- significant bit first, width 1728, 2292 rows`): first those without octets after it, then those without EOFB (`2292 rows, without EOFB`),
-- then those with octets after it (`2292 rows, 3 octets after it`), then those that `decode --repair` reads (`2292 rows, by decode
-- --repair`).
abbrev pub page_lines : List ℕ → List Tried → List ℕ
page_lines octets tried = format_line (format_of octets) ++ (lines_of Whole octets tried ++ (lines_of NoEofb octets tried
    ++ (lines_of Early octets tried ++ lines_of Mended octets tried)))

-- The octets were tried in all ways. What is written are `page_lines` and what `TellsIdentity` says, and what they are known to be is
-- `identity_of`, of the results.
pub record Identifies (octets : List ℕ) (before after : Option (List ℕ)) (identity : Identity) : Type 0 where
  pub tried : List Tried
  pub own : Said
  pub are_tried : AreTried tried_widths octets tried own
  pub between : Option (List ℕ)
  pub written : Appends before between (page_lines octets tried)
  pub tells : TellsIdentity octets tried own identity between after
  pub identity_is : identity ≡ identity_of (format_of octets) octets tried
