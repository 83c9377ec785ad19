-- What fault lines mean, in words.
use Rattle.std.specs.Prelude.{ℕ, ◌≡◌, ◌==◌, ◌+◌, ◌++◌, ◌∷◌, ◌&&◌, ◌||◌, [], Bool, true, false, not, List, Option, Some, None, codes, cond}
use Rattle.std.specs.Prelude.{if◌then◌else◌, nat_le, nat_lt}
use Rattle.std.specs.Fmt.{decimal}
use Rattle.std.specs.declared.io.ErrorKind.{ErrorKind}
use Rattle.std.specs.declared.io.ErrorKind.TheVariants as io
use Rattle.raster.specs.declared.packed.Order.{Order}
use Rattle.raster.specs.declared.packed.Order.TheVariants.{MsbFirst, LsbFirst}
use Rattle.raster.specs.declared.row.Color.{Color}
use Rattle.raster.specs.declared.row.Color.TheVariants.{White, Black}
use Rattle.page_code.specs.declared.Coding.{Coding}
use Rattle.page_code.specs.declared.Coding.TheVariants.{OneDim, T6}
use Rattle.faults.specs.FaultKinds.{kind_of, words_of}
use Rattle.faults.specs.declared.explain.Known.{Known}
use Rattle.faults.specs.declared.expected.Expected.{Expected}
use Rattle.faults.specs.declared.expected.Expected.TheVariants.{RunOf, Eol}
use Rattle.faults.specs.declared.line_fault.LineFault.{LineFault}
use Rattle.faults.specs.declared.line_fault.LineFault.TheVariants.{NotUtf8, Blank, Word, Count}
use Rattle.faults.specs.declared.fault_kind.FaultKind.{FaultKind}
use Rattle.faults.specs.declared.fault_kind.FaultKind.TheVariants.{BadHeader, Io, BadCode, BadLine, Truncated, MissingEofb}
use Rattle.faults.specs.declared.fault.ToolFault.{ToolFault}
use Rattle.faults.specs.declared.fault.ToolFault.TheVariants.{No, AtBit, AtLine}

-- the octet is a printable ASCII character: from the space to the tilde
abbrev pub is_plain : ℕ → Bool
is_plain octet = nat_le 32 octet && nat_lt octet 127

-- An octet after another one neither is a control character nor ends one. U+0000 to U+001F and U+007F are one octet each; U+0080 to U+009F
-- are C2 and then one of 80 to 9F in UTF-8.
abbrev pub is_shown : ℕ → ℕ → Bool
is_shown before octet = nat_le 32 octet && not (octet == 127 || (nat_le 128 octet && nat_lt octet 160 && before == 194))

-- The octets have no control character, and end none that begins with the octet before them: no octet below 20, no 7F, and no C2 followed
-- by one of 80 to 9F (hex). So they have no LF.
abbrev pub are_shown : ℕ → List ℕ → Bool
are_shown before [] = true
are_shown before (octet ∷ octets) = is_shown before octet && are_shown octet octets

-- the text has no control character, thus no LF: it is one line
abbrev pub IsOneLine : List ℕ → Type 0
IsOneLine text = are_shown 0 text ≡ true

-- the file's name; `a file` if the name has a control character
abbrev pub name_text : List ℕ → List ℕ
name_text name = cond (are_shown 0 name) name (codes "a file")

-- the words of a number in a table, or others
abbrev pub words_in : List (ℕ × List ℕ) → List ℕ → ℕ → List ℕ
words_in [] others number = others
words_in (row ∷ rows) others number = if number == row.0 then row.1 else words_in rows others number

-- Netpbm's formats, by the digit after P
abbrev pub netpbm_table : List (ℕ × List ℕ)
netpbm_table = (49, codes "a plain PBM (P1): faxtool reads raw ones (P4)")
    ∷ (50, codes "a plain PGM (P2): faxtool reads raw PBM (P4)")
    ∷ (51, codes "a plain PPM (P3): faxtool reads raw PBM (P4)")
    ∷ (52, codes "a header is wrong: after P4 come the width and the height, and after an image the next P4 or the end")
    ∷ (53, codes "a raw PGM (P5): faxtool reads raw PBM (P4)")
    ∷ (54, codes "a raw PPM (P6): faxtool reads raw PBM (P4)")
    ∷ (55, codes "a PAM (P7): faxtool reads raw PBM (P4)") ∷ []

-- a TIFF begins with II or MM
abbrev pub tiff_table : ℕ → List (ℕ × List ℕ)
tiff_table letter = (letter, codes "perhaps a TIFF: faxtool reads raw PBM (P4)") ∷ []

-- why octets are no raw PBM, by the first two of them
abbrev pub no_raw_pbm : List ℕ → List ℕ
no_raw_pbm (first ∷ second ∷ rest) = if first == 80 then words_in netpbm_table (codes "no raw PBM: it doesn't begin with P4") second
    else if first == 73 then words_in (tiff_table 73) (codes "no raw PBM: it doesn't begin with P4") second
    else if first == 77 then words_in (tiff_table 77) (codes "no raw PBM: it doesn't begin with P4") second
    else codes "no raw PBM: it doesn't begin with P4"
no_raw_pbm octets = codes "no raw PBM: it doesn't begin with P4"

-- why the system refuses a file
abbrev pub reason_words : Option ErrorKind → List ℕ
reason_words (Some io.NotFound) = codes "no such file or folder"
reason_words (Some io.PermissionDenied) = codes "permission denied"
reason_words (Some io.AlreadyExists) = codes "there is a file of this name already"
reason_words (Some io.IsADirectory) = codes "it is a folder"
reason_words (Some io.NotADirectory) = codes "a part of its path is no folder"
reason_words (Some io.StorageFull) = codes "no space left on the device"
reason_words (Some io.QuotaExceeded) = codes "the quota is used up"
reason_words (Some io.FileTooLarge) = codes "it would be larger than a file may be"
reason_words (Some io.ReadOnlyFilesystem) = codes "the file system is read-only"
reason_words (Some io.BrokenPipe) = codes "what reads the pipe has closed it"
reason_words (Some io.InvalidFilename) = codes "the name is too long"
reason_words (Some io.FilesystemLoop) = codes "its links lead in a circle"
reason_words (Some io.ExecutableFileBusy) = codes "it is a program that is running"
reason_words (Some io.InvalidData) = codes "it isn't UTF-8"
reason_words (Some io.InvalidInput) = codes "its file system can't do this"
reason_words (Some io.Unsupported) = codes "its file system can't do this"
reason_words reason = codes "it can't be read or written"

-- what was expected at the bit where no code word begins: a run of a color, an EOL, or any code
abbrev pub missing_code : Option Expected → List ℕ
missing_code (Some (RunOf White)) = codes "no code word of a white run begins here"
missing_code (Some (RunOf Black)) = codes "no code word of a black run begins here"
missing_code (Some Eol) = codes "an EOL is expected here, and no EOL begins here"
missing_code None = codes "no valid code begins here"

-- the row, counted from 1, if it is known
abbrev pub row_text : Option ℕ → List ℕ
row_text (Some row) = codes "row " ++ (decimal row ++ codes ": ")
row_text None = []

-- the suggestion for a page read with this code and bit order: the other bit order, or the other code
abbrev pub other_words : Coding × Order → List ℕ
other_words (OneDim, MsbFirst) = codes " (try --order lsb, or --code mmr)"
other_words (OneDim, LsbFirst) = codes " (try --order msb, or --code mmr)"
other_words (T6, MsbFirst) = codes " (try --order lsb, or --code mh)"
other_words (T6, LsbFirst) = codes " (try --order msb, or --code mh)"

-- the page is refused because the file ends
abbrev pub is_at_end : FaultKind → Bool
is_at_end Truncated = true
is_at_end MissingEofb = true
is_at_end kind = false

-- what to try if the first row of a page is refused, unless the file ends there: the other bit order, the other code
abbrev pub try_words : FaultKind → Option ℕ → Option (Coding × Order) → List ℕ
try_words kind (Some row) (Some read_as) = if row == 1 && not (is_at_end kind) then other_words read_as else []
try_words kind (Some row) None = []
try_words kind None read_as = []

-- what is wrong with a line of a script, if it is known
abbrev pub line_words : Option LineFault → List ℕ
line_words (Some NotUtf8) = codes "it isn't UTF-8"
line_words (Some Blank) = codes "a blank is wrong: a line is a word, or a word, one space and a count"
line_words (Some Word) = codes "no command of a script begins with this word"
line_words (Some Count) = codes "the count is missing or isn't 1 to 1000000"
line_words None = codes "no command of a script, or no count that it takes"

-- What is wrong. A file that is no raw PBM is described by its first octets, a system error by its reason, a bad code by the code expected,
-- a bad line of a script by what is wrong with it; any other fault by the words of its kind.
abbrev pub wrong_words : FaultKind → Known → List ℕ
wrong_words BadHeader known = no_raw_pbm known.begins.now
wrong_words Io known = reason_words known.reason
wrong_words BadCode known = missing_code known.expected
wrong_words BadLine known = line_words known.line
wrong_words kind known = words_of kind

-- nothing more is known of the fault: no first octets, no system reason, no expected code, nothing about the script's line
abbrev pub IsBare : Known → Type 0
IsBare known = (known.begins.now ≡ []) × (known.reason ≡ None) × (known.expected ≡ None) × (known.line ≡ None)

-- A fault in words: the file's name, the row or the line if it is known, and what is wrong there. If the first row of a page is refused
-- (but not because the file ends), the other bit order and the other code are suggested.
abbrev pub explained : ToolFault → Known → List ℕ
explained (No number) known = name_text known.file.now ++ (codes ": " ++ wrong_words (kind_of (No number)) known)
explained (AtBit number place) known = name_text known.file.now ++ (codes ": " ++ (row_text known.row
    ++ (wrong_words (kind_of (AtBit number place)) known ++ try_words (kind_of (AtBit number place)) known.row known.read_as)))
explained (AtLine line) known =
    name_text known.file.now ++ (codes ": line " ++ (decimal line ++ (codes ": " ++ wrong_words (kind_of (AtLine line)) known)))
