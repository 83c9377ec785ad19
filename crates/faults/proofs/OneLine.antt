-- A fault in words is one line.
use Rattle.std.proofs.Common.{◌≡◌, ◌<◌, ◌+◌, ◌%◌, ◌/◌, ◌++◌, ◌∷◌, [], ◌&&◌, ℕ, Bool, true, false, List, Option, Some, None, refl, arith}
use Rattle.std.proofs.Common.{codes, zero, suc, nat_lt}
use Rattle.std.proofs.lemmas.Grind.{common_steps}
use Rattle.std.specs.Fmt.{decimal, digit_glyph, digits, digits_onto}
use Rattle.std.proofs.lemmas.Bool.{and_from, and_parts, le-leb, lt-ltb}
use Rattle.std.proofs.lemmas.Bool.Decides.{nat_tests}
use Rattle.std.specs.List.{list_all}
use Rattle.std.specs.Prelude.{◌==◌, nat_le, not}
use Rattle.std.specs.declared.io.ErrorKind.{ErrorKind}
use Rattle.std.specs.declared.io.ErrorKind.TheVariants as io
use Rattle.raster.specs.declared.packed.Order.{Order}
use Rattle.raster.specs.declared.packed.Order.TheVariants.{MsbFirst, LsbFirst}
use Rattle.raster.specs.declared.row.Color.TheVariants.{White, Black}
use Rattle.page_code.specs.declared.Coding.{Coding}
use Rattle.page_code.specs.declared.Coding.TheVariants.{OneDim, T6}
use Rattle.faults.specs.declared.explain.Known.{Known}
use Rattle.faults.specs.declared.line_fault.LineFault.{LineFault}
use Rattle.faults.specs.declared.line_fault.LineFault.TheVariants.{NotUtf8, Blank, Word, Count}
use Rattle.faults.specs.declared.expected.Expected.{Expected}
use Rattle.faults.specs.declared.expected.Expected.TheVariants.{RunOf, Eol}
use Rattle.faults.specs.declared.fault.ToolFault.{ToolFault}
use Rattle.faults.specs.declared.fault.ToolFault.TheVariants.{No, AtBit, AtLine}
use Rattle.faults.specs.declared.fault_kind.FaultKind.{FaultKind}
use Rattle.faults.specs.declared.fault_kind.FaultKind.TheVariants.{BadWidth, WrongRowWidth, TooManyRows, NoRows, BadHeader, ShortData}
use Rattle.faults.specs.declared.fault_kind.FaultKind.TheVariants.{NoPages, Io, NoMemory, BadAddress, BadControl, ShortField}
use Rattle.faults.specs.declared.fault_kind.FaultKind.TheVariants.{WidthNotCallable, SeveralPages, FewerPages, Unidentified, TooManyOctets, Unknown}
use Rattle.faults.specs.declared.fault_kind.FaultKind.TheVariants.{NoCodedRows, BadCode}
use Rattle.faults.specs.declared.fault_kind.FaultKind.TheVariants.{Truncated, RunTooLong, Backwards, PastEnd, EmptyHorizontal}
use Rattle.faults.specs.declared.fault_kind.FaultKind.TheVariants.{Extension, MissingEofb, TooManyCodedRows, UnknownAtBit, BadLine}
use Rattle.faults.specs.Explanations.{IsOneLine, are_shown, explained, is_at_end, is_plain, is_shown, line_words, missing_code, name_text}
use Rattle.faults.specs.Explanations.{netpbm_table, no_raw_pbm, other_words, reason_words, row_text, tiff_table, try_words, words_in}
use Rattle.faults.specs.Explanations.{wrong_words}
use Rattle.faults.specs.FaultKinds.{kind_of, words_of}

-- ---- plain texts: characters of ASCII with no control character

abbrev IsPlain : List ℕ → Type 0
IsPlain text = list_all is_plain text ≡ true

plain_shown : (before octet : ℕ) → is_plain octet ≡ true → is_shown before octet ≡ true
plain_shown before octet h = grind (arith, nat_tests, h)

-- after any octet a plain text has no control character
plain_line : (before : ℕ) (text : List ℕ) → IsPlain text → are_shown before text ≡ true
plain_line before [] h = refl
plain_line before (octet ∷ text) h =
    let parts = and_parts (is_plain octet) (list_all is_plain text) h in
    and_from (is_shown before octet) (are_shown octet text) (plain_shown before octet parts.0) (plain_line octet text parts.1)

-- a plain text after a text with no control character
shown_then_plain : (before : ℕ) (a b : List ℕ) → are_shown before a ≡ true → IsPlain b → are_shown before (a ++ b) ≡ true
shown_then_plain before [] b ha hb = plain_line before b hb
shown_then_plain before (octet ∷ a) b ha hb =
    let parts = and_parts (is_shown before octet) (are_shown octet a) ha in
    and_from (is_shown before octet) (are_shown octet (a ++ b)) parts.0 (shown_then_plain octet a b parts.1 hb)

-- a text after a text
both_lines : (a b : List ℕ) → IsPlain a → IsPlain b → IsPlain (a ++ b)
both_lines a b ha hb = grind (arith, common_steps, ha, hb)

glyph_plain : (d : ℕ) → d < 10 → is_plain (digit_glyph false d) ≡ true
glyph_plain d low = rw (lt-ltb d 10 low) (and_from (nat_le 32 (48 + d)) (nat_lt (48 + d) 127) (le-leb 32 (48 + d) (omega arith))
    (lt-ltb (48 + d) 127 (omega (arith, low))))

digits_line : (k n : ℕ) (after : List ℕ) → IsPlain after → IsPlain (digits_onto k 10 false n after)
digits_line zero n after h = h
digits_line (suc k) n after h = by_test (n / 10 == 0) refl (λ more one. digits_line k (n / 10) more one)
  where
    one : IsPlain (digit_glyph false (n % 10) ∷ after)
    one = and_from (is_plain (digit_glyph false (n % 10))) (list_all is_plain after) (glyph_plain (n % 10) (omega arith)) h

    by_test : (test : Bool) → (n / 10 == 0) ≡ test
        → ((more : List ℕ) → IsPlain more → IsPlain (digits_onto k 10 false (n / 10) more))
        → IsPlain (digits_onto (suc k) 10 false n after)
    by_test true e on = rw e one
    by_test false e on = rw e (on _ one)

decimal_line : (n : ℕ) → IsPlain (decimal n)
unfolding digits
decimal_line n = digits_line 64 n [] refl

name_line : (name : List ℕ) → IsOneLine (name_text name)
name_line name = by_test (are_shown 0 name) refl
  where
    by_test : (test : Bool) → are_shown 0 name ≡ test → IsOneLine (name_text name)
    by_test true e = rw e e
    by_test false e = rw e refl

-- every text of a table is plain
abbrev are_lines : List (ℕ × List ℕ) → Bool
are_lines [] = true
are_lines (row ∷ rows) = list_all is_plain row.1 && are_lines rows

words_line : (table : List (ℕ × List ℕ)) (others : List ℕ) (number : ℕ) → are_lines table ≡ true → IsPlain others
    → IsPlain (words_in table others number)
words_line [] others number all other = other
words_line (row ∷ rows) others number all other =
    by_test (number == row.0) refl (words_line rows others number (grind (arith, common_steps, all)) other)
  where
    by_test : (test : Bool) → (number == row.0) ≡ test → IsPlain (words_in rows others number)
        → IsPlain (words_in (row ∷ rows) others number)
    by_test true e on = rw e (grind (arith, common_steps, all))
    by_test false e on = rw e on

-- the words of each kind are plain
kind_line : (kind : FaultKind) → IsPlain (words_of kind)
kind_line BadWidth = refl
kind_line WrongRowWidth = refl
kind_line TooManyRows = refl
kind_line NoRows = refl
kind_line BadHeader = refl
kind_line ShortData = refl
kind_line NoPages = refl
kind_line Io = refl
kind_line NoMemory = refl
kind_line BadAddress = refl
kind_line BadControl = refl
kind_line ShortField = refl
kind_line WidthNotCallable = refl
kind_line SeveralPages = refl
kind_line FewerPages = refl
kind_line Unidentified = refl
kind_line TooManyOctets = refl
kind_line (Unknown number) = refl
kind_line NoCodedRows = refl
kind_line BadCode = refl
kind_line Truncated = refl
kind_line RunTooLong = refl
kind_line Backwards = refl
kind_line PastEnd = refl
kind_line EmptyHorizontal = refl
kind_line Extension = refl
kind_line MissingEofb = refl
kind_line TooManyCodedRows = refl
kind_line (UnknownAtBit number) = refl
kind_line BadLine = refl

missing_line : (expected : Option Expected) → IsPlain (missing_code expected)
missing_line (Some (RunOf White)) = refl
missing_line (Some (RunOf Black)) = refl
missing_line (Some Eol) = refl
missing_line None = refl

reason_line : (reason : Option ErrorKind) → IsPlain (reason_words reason)
reason_line (Some io.NotFound) = refl
reason_line (Some io.PermissionDenied) = refl
reason_line (Some io.IsADirectory) = refl
reason_line (Some io.NotADirectory) = refl
reason_line (Some io.StorageFull) = refl
reason_line (Some io.QuotaExceeded) = refl
reason_line (Some io.FileTooLarge) = refl
reason_line (Some io.ReadOnlyFilesystem) = refl
reason_line (Some io.BrokenPipe) = refl
reason_line (Some io.InvalidFilename) = refl
reason_line (Some io.FilesystemLoop) = refl
reason_line (Some io.ExecutableFileBusy) = refl
reason_line (Some io.InvalidData) = refl
reason_line reason = refl

image_header_line : (octets : List ℕ) → IsPlain (no_raw_pbm octets)
image_header_line [] = refl
image_header_line (first ∷ []) = refl
image_header_line (first ∷ (second ∷ rest)) = if_p (first == 80) refl
  where
    if_m : (test : Bool) → (first == 77) ≡ test → (first == 73) ≡ false → (first == 80) ≡ false
        → IsPlain (no_raw_pbm (first ∷ (second ∷ rest)))
    if_m true e n o = rw (o, n, e) (words_line (tiff_table 77) (codes "no raw PBM: it doesn't begin with P4") second refl refl)
    if_m false e n o = rw (o, n, e) refl

    if_i : (test : Bool) → (first == 73) ≡ test → (first == 80) ≡ false → IsPlain (no_raw_pbm (first ∷ (second ∷ rest)))
    if_i true e n = rw (n, e) (words_line (tiff_table 73) (codes "no raw PBM: it doesn't begin with P4") second refl refl)
    if_i false e n = if_m (first == 77) refl e n

    if_p : (test : Bool) → (first == 80) ≡ test → IsPlain (no_raw_pbm (first ∷ (second ∷ rest)))
    if_p true e = rw e (words_line netpbm_table (codes "no raw PBM: it doesn't begin with P4") second refl refl)
    if_p false e = if_i (first == 73) refl e

row_line : (row : Option ℕ) → IsPlain (row_text row)
row_line (Some row) = both_lines (codes "row ") (decimal row ++ codes ": ") refl
    (both_lines (decimal row) (codes ": ") (decimal_line row) refl)
row_line None = refl

other_line : (read_as : Coding × Order) → IsPlain (other_words read_as)
other_line (OneDim, MsbFirst) = refl
other_line (OneDim, LsbFirst) = refl
other_line (T6, MsbFirst) = refl
other_line (T6, LsbFirst) = refl

try_line : (kind : FaultKind) (row : Option ℕ) (read_as : Option (Coding × Order)) → IsPlain (try_words kind row read_as)
try_line kind (Some row) (Some read_as) = by_test (row == 1 && not (is_at_end kind)) refl
  where
    by_test : (test : Bool) → (row == 1 && not (is_at_end kind)) ≡ test → IsPlain (try_words kind (Some row) (Some read_as))
    by_test true e = rw e (other_line read_as)
    by_test false e = rw e refl
try_line kind (Some row) None = refl
try_line kind None read_as = refl

said_line : (line : Option LineFault) → IsPlain (line_words line)
said_line (Some NotUtf8) = refl
said_line (Some Blank) = refl
said_line (Some Word) = refl
said_line (Some Count) = refl
said_line None = refl

wrong_line : (kind : FaultKind) (known : Known) → IsPlain (wrong_words kind known)
wrong_line BadHeader known = image_header_line known.begins.now
wrong_line Io known = reason_line known.reason
wrong_line BadCode known = missing_line known.expected
wrong_line BadLine known = said_line known.line
wrong_line kind known = kind_line kind

after_name : (name what : List ℕ) → IsPlain what → IsOneLine (name_text name ++ (codes ": " ++ what))
after_name name what h = shown_then_plain 0 (name_text name) (codes ": " ++ what) (name_line name) (both_lines (codes ": ") what refl h)

place_line : (kind : FaultKind) (known : Known)
    → IsPlain (row_text known.row ++ (wrong_words kind known ++ try_words kind known.row known.read_as))
place_line kind known = both_lines (row_text known.row) (wrong_words kind known ++ try_words kind known.row known.read_as)
    (row_line known.row)
    (both_lines (wrong_words kind known) (try_words kind known.row known.read_as) (wrong_line kind known)
    (try_line kind known.row known.read_as))

pub explained_line : (fault : ToolFault) (known : Known) → IsOneLine (explained fault known)
explained_line (No number) known =
    after_name known.file.now (wrong_words (kind_of (No number)) known) (wrong_line (kind_of (No number)) known)
explained_line (AtBit number place) known =
    after_name known.file.now (row_text known.row ++ (wrong_words kind known ++ try_words kind known.row known.read_as))
    (place_line kind known)
  where
    kind : FaultKind
    kind = kind_of (AtBit number place)
explained_line (AtLine line) known =
    shown_then_plain 0 (name_text known.file.now) (codes ": line " ++ (decimal line ++ rest)) (name_line known.file.now)
    (both_lines (codes ": line ") (decimal line ++ rest) refl (both_lines (decimal line) rest (decimal_line line)
    (both_lines (codes ": ") (line_words known.line) refl (said_line known.line))))
  where
    rest : List ℕ
    rest = codes ": " ++ line_words known.line
