-- The kinds of faults: the number and the words of each, and the kind of each fault.
use Rattle.std.specs.Prelude.{ℕ, ◌==◌, ◌∷◌, [], List, codes, if◌then◌else◌}
use Rattle.faults.specs.declared.fault.ToolFault.{ToolFault}
use Rattle.faults.specs.declared.fault.ToolFault.TheVariants.{No, AtBit, AtLine}
use Rattle.faults.specs.declared.fault_kind.FaultKind.{FaultKind}
use Rattle.faults.specs.declared.fault_kind.FaultKind.TheVariants.{BadWidth, WrongRowWidth, TooManyRows, NoRows, BadHeader, ShortData}
use Rattle.faults.specs.declared.fault_kind.FaultKind.TheVariants.{NoPages, Io, NoMemory, BadAddress, BadControl, ShortField}
use Rattle.faults.specs.declared.fault_kind.FaultKind.TheVariants.{WidthNotCallable, SeveralPages, FewerPages, Unidentified, TooManyOctets, Unknown}
use Rattle.faults.specs.declared.fault_kind.FaultKind.TheVariants.{NoCodedRows, BadCode}
use Rattle.faults.specs.declared.fault_kind.FaultKind.TheVariants.{Truncated, RunTooLong, Backwards, PastEnd, EmptyHorizontal}
use Rattle.faults.specs.declared.fault_kind.FaultKind.TheVariants.{Extension, MissingEofb, TooManyCodedRows, UnknownAtBit, BadLine}

-- the number of each kind, as the fault line shows it
abbrev pub number_of : FaultKind → ℕ
number_of BadWidth = 1
number_of WrongRowWidth = 2
number_of TooManyRows = 3
number_of NoRows = 4
number_of BadHeader = 5
number_of ShortData = 6
number_of NoPages = 7
number_of Io = 8
number_of NoMemory = 9
number_of BadAddress = 20
number_of BadControl = 21
number_of ShortField = 22
number_of WidthNotCallable = 26
number_of SeveralPages = 27
number_of FewerPages = 28
number_of Unidentified = 29
number_of TooManyOctets = 32
number_of (Unknown number) = number
number_of NoCodedRows = 4
number_of BadCode = 10
number_of Truncated = 11
number_of RunTooLong = 12
number_of Backwards = 13
number_of PastEnd = 14
number_of EmptyHorizontal = 15
number_of Extension = 16
number_of MissingEofb = 17
number_of TooManyCodedRows = 18
number_of (UnknownAtBit number) = number
number_of BadLine = 30

-- the words of each kind, used when nothing more is known of the fault
abbrev pub words_of : FaultKind → List ℕ
words_of BadWidth = codes "the width isn't 1 to 2432 pixels"
words_of WrongRowWidth = codes "a row isn't as wide as its page"
words_of TooManyRows = codes "the image has more than 20000 rows"
words_of NoRows = codes "the image has no row"
words_of BadHeader = codes "no raw PBM: it doesn't begin with P4"
words_of ShortData = codes "the image is cut short: it has fewer octets than its width and height say"
words_of NoPages = codes "there is no image: it has no octet"
words_of Io = codes "it can't be read or written"
words_of NoMemory = codes "memory was refused: try it with less input or more memory"
words_of BadAddress = codes "it can't be used"
words_of BadControl = codes "it can't be used"
words_of ShortField = codes "it can't be used"
words_of WidthNotCallable = codes "a page's width isn't 1728, 2048 or 2432 pixels, the widths that a call carries"
words_of SeveralPages = codes "several images: code takes one"
words_of FewerPages = codes "the file has fewer pages than --page says"
words_of Unidentified = codes "it reads as no page in any way that is tried, and begins as no known format"
words_of TooManyOctets = codes "it has more octets than are read of such a file"
words_of (Unknown number) = codes "it can't be used"
words_of NoCodedRows = codes "the page ends before its first row"
words_of BadCode = codes "no valid code begins here"
words_of Truncated = codes "the file ends inside a code or before the next one: it is cut short"
words_of RunTooLong = codes "this run goes past the row's width: is --width right?"
words_of Backwards = codes "this vertical mode doesn't move to the right"
words_of PastEnd = codes "this mode or run goes past the row's width: is --width right?"
words_of EmptyHorizontal = codes "a horizontal mode of two runs of 0 pixels"
words_of Extension = codes "an extension code, as of uncompressed mode, which faxtool doesn't read"
words_of MissingEofb = codes "the page's end (EOFB) is missing: the file is cut short"
words_of TooManyCodedRows = codes "one row more than 20000, the most that a page has"
words_of (UnknownAtBit number) = codes "no page can go on here"
words_of BadLine = codes "no command of a script, or no count that it takes"

-- the kinds of the faults of a whole file, or of the system
abbrev pub whole_kinds : List FaultKind
whole_kinds = BadWidth ∷ WrongRowWidth ∷ TooManyRows ∷ NoRows ∷ BadHeader ∷ ShortData ∷ NoPages ∷ Io ∷ NoMemory
    ∷ BadAddress ∷ BadControl ∷ ShortField ∷ WidthNotCallable ∷ SeveralPages ∷ FewerPages ∷ Unidentified ∷ TooManyOctets ∷ []

-- the kinds of the faults of a coded page, at a bit
abbrev pub page_kinds : List FaultKind
page_kinds = NoCodedRows ∷ BadCode ∷ Truncated ∷ RunTooLong ∷ Backwards ∷ PastEnd ∷ EmptyHorizontal ∷ Extension
    ∷ MissingEofb ∷ TooManyCodedRows ∷ []

-- the one of the kinds that has the number, or another one
abbrev pub kind_among : List FaultKind → FaultKind → ℕ → FaultKind
kind_among [] other number = other
kind_among (kind ∷ kinds) other number = if number == number_of kind then kind else kind_among kinds other number

-- the kind of a fault of a whole file, by its number
abbrev pub whole_kind : ℕ → FaultKind
whole_kind number = kind_among whole_kinds (Unknown number) number

-- the kind of a fault of a coded page, by its number
abbrev pub page_kind : ℕ → FaultKind
page_kind number = kind_among page_kinds (UnknownAtBit number) number

-- The kind of a fault. Without a place, the kind with its number among those of a whole file; at a bit, the kind with its number among
-- those of a coded page; if no kind has the number, an unknown kind with that number. At a line of a script, `BadLine`.
abbrev pub kind_of : ToolFault → FaultKind
kind_of (No number) = whole_kind number
kind_of (AtBit number place) = page_kind number
kind_of (AtLine line) = BadLine

-- the number in the line of a fault
abbrev pub number_in : ToolFault → ℕ
number_in (No number) = number
number_in (AtBit number place) = number
number_in (AtLine line) = 30
