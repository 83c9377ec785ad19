-- Why bits of a T.6 page are refused (ITU-T T.6, 2.2 and 2.4): where a page is after whole codes, which codes are valid there, and one
-- sentence for each kind, over the tables and the modes alone. How bits are read doesn't matter here.
use Rattle.std.specs.Prelude.{ℕ, ◌≡◌, ◌+◌, ◌<◌, ◌≤◌, ◌⊎◌, Bool, true, false, List, [], ◌∷◌, ◌++◌, length, replicate, Option, Some, None}
use Rattle.raster.specs.declared.row.Color.{Color}
use Rattle.raster.specs.Pixels.{other}
use Rattle.raster.specs.Pages.{max_rows}
use Rattle.run_tables.specs.declared.fault.CodeFaultKind.{CodeFaultKind}
use Rattle.run_tables.specs.declared.fault.CodeFaultKind.TheVariants.{NoRows, BadCode, Truncated, Backwards, PastEnd, EmptyHorizontal}
use Rattle.run_tables.specs.declared.fault.CodeFaultKind.TheVariants.{Extension, MissingEofb, TooManyCodedRows}
use Rattle.run_tables.specs.declared.reader.Among.{Among}
use Rattle.run_tables.specs.declared.reader.Among.TheVariants.{AllCodes, TerminatingCodes}
use Rattle.run_tables.specs.Codes.{InTable, run_words}
use Rattle.run_tables.specs.Kinds.{MayCome as RunMayCome}
use Rattle.run_tables.specs.RowFronts.{amount}
use Rattle.page_code.specs.declared.t6.mode.Shift.{Shift}
use Rattle.page_code.specs.declared.t6.mode.ModeCode.{ModeCode}
use Rattle.page_code.specs.TwoDimensions.Positions.{CodingLine, line_begin, white_line, right_of_a0, IsB1}
use Rattle.page_code.specs.TwoDimensions.Modes.{Mode, IsStep, SpellsRows, mode_words, to_left, to_right, vertical_word, horizontal_word}
use Rattle.page_code.specs.TwoDimensions.Modes.{extension_word, eofb}
use Rattle.page_code.specs.TwoDimensions.Fronts.{PageSoFar, PageState, mode_word, run_color}
use Rattle.page_code.specs.TwoDimensions.Fronts.PageState.{between, inside, running}
use Rattle.page_code.specs.TwoDimensions.Writing.{reference_at}

-- ---- where a page is after whole codes

-- the bits spell the rows, at most 20,000, and the last row is the next one's reference line
pub record AreRows (width : ℕ) (front : List Bool) (page : PageSoFar) : Type 0 where
  pub few : length page.rows ≤ max_rows
  pub spells : SpellsRows width (white_line width) page.rows front
  pub reference_is : page.reference ≡ reference_at (white_line width) page.rows (length page.rows)

-- the bits are the code words of modes that lead from a line on to another
abbrev pub SpellsModes : ℕ → List Color → CodingLine → List Mode → CodingLine → List Bool → Type 0
SpellsModes width reference line [] next bits = (line ≡ next) × (bits ≡ [])
SpellsModes width reference line (mode ∷ modes) next bits =
    (moved : CodingLine) × (rest : List Bool) × IsStep width reference line mode moved × (bits ≡ mode_words line.color mode ++ rest)
    × SpellsModes width reference moved modes next rest

-- the bits are rows, and modes of the next row, which isn't whole yet
pub record AreModes (width : ℕ) (front : List Bool) (page : PageSoFar) (line : CodingLine) : Type 0 where
  pub before : List Bool
  pub later : List Bool
  pub modes : List Mode
  pub rows : AreRows width before page
  pub room : length page.rows < max_rows
  pub spells : SpellsModes width page.reference line_begin modes line later
  pub short : length line.pixels < width
  pub split : front ≡ before ++ later

-- the code words of a first run, if there is one
abbrev pub first_words : Color → Option ℕ → List Bool
first_words color None = []
first_words color (Some run) = run_words color run

-- the bits are a make-up code, if there is one
abbrev pub IsMakeup : Color → Option ℕ → List Bool → Type 0
IsMakeup color None bits = bits ≡ []
IsMakeup color (Some run) bits = InTable color run bits × (64 ≤ run)

-- the bits are rows and modes of the next one, horizontal mode's flag, perhaps its first run, and perhaps a make-up code, within the
-- width
pub record AreRuns (width : ℕ) (front : List Bool) (page : PageSoFar) (line : CodingLine) (first makeup : Option ℕ) : Type 0 where
  pub before : List Bool
  pub later : List Bool
  pub modes : AreModes width before page line
  pub makeup_is : IsMakeup (run_color line first) makeup later
  pub within : length line.pixels + amount first + amount makeup ≤ width
  pub split : front ≡ before ++ (horizontal_word ++ (first_words line.color first ++ later))

-- Whole codes of a page without its end: rows; or rows and modes of the next row; or after these horizontal mode's flag, perhaps its
-- first run, and perhaps a make-up code, within the width.
abbrev pub IsPagePart : ℕ → List Bool → PageState → Type 0
IsPagePart width front (between page) = AreRows width front page
IsPagePart width front (inside page line) = AreModes width front page line × (line.begun ≡ true)
IsPagePart width front (running page line first makeup) = AreRuns width front page line first makeup

-- ---- which codes may come

-- which run codes are valid: any, but after a make-up code only the terminating ones
abbrev pub among_after : Option ℕ → Among
among_after None = AllCodes
among_after (Some makeup) = TerminatingCodes

-- A valid code word: between rows EOFB, or a mode code if the page has fewer than 20,000 rows; in a row a mode code; after horizontal
-- mode's flag a run code of the run's color, after a make-up code a terminating one.
abbrev pub MayCome : PageState → List Bool → Type 0
MayCome (between page) word = (word ≡ eofb) ⊎ ((length page.rows < max_rows) × (code : ModeCode) × (word ≡ mode_word code))
MayCome (inside page line) word = (code : ModeCode) × (word ≡ mode_word code)
MayCome (running page line first makeup) word = (run : ℕ) × RunMayCome (run_color line first) (among_after makeup) run word

-- a valid code word begins the bits
abbrev pub BeginsWithCode : PageState → List Bool → Type 0
BeginsWithCode state x = (word : List Bool) × (rest : List Bool) × MayCome state word × (x ≡ word ++ rest)

-- the bits are the beginning of a valid code word, and a bit or more of it is missing
abbrev pub EndsInCode : PageState → List Bool → Type 0
EndsInCode state x = (word : List Bool) × (bit : Bool) × (more : List Bool) × MayCome state word × (word ≡ x ++ bit ∷ more)

-- a mode code is valid, on this line after this reference line
abbrev pub TakesMode : PageState → List Color → CodingLine → Type 0
TakesMode (between page) reference line = (length page.rows < max_rows) × (reference ≡ page.reference) × (line ≡ line_begin)
TakesMode (inside page current) reference line = (reference ≡ page.reference) × (line ≡ current)
TakesMode (running page current first makeup) reference line = ⊥

-- ---- code words that are refused

-- NoRows: EOFB, before any row
abbrev pub EndsNoRow : PageState → List Bool → Type 0
EndsNoRow (between page) word = (page.rows ≡ []) × (word ≡ eofb)
EndsNoRow state word = ⊥

-- Extension: 0000001, where a mode code is valid
abbrev pub IsExtension : PageState → List Bool → Type 0
IsExtension state word = (reference : List Color) × (line : CodingLine) × TakesMode state reference line × (word ≡ extension_word)

-- a vertical mode with its b1 at this place is valid
abbrev pub TakesVertical : PageState → List Bool → CodingLine → Shift → ℕ → Type 0
TakesVertical state word line shift b1 =
    (reference : List Color) × TakesMode state reference line × (word ≡ vertical_word shift) × IsB1 reference line b1

-- Backwards: a vertical mode whose a1 isn't to the right of a0
abbrev pub LeadsBack : PageState → List Bool → Type 0
LeadsBack state word = (line : CodingLine) × (shift : Shift) × (b1 : ℕ) × TakesVertical state word line shift b1
    × (b1 + to_right shift < right_of_a0 line + to_left shift)

-- PastEnd: a vertical mode whose a1 is past the width
abbrev pub LeadsPast : ℕ → PageState → List Bool → Type 0
LeadsPast width state word = (line : CodingLine) × (shift : Shift) × (b1 : ℕ) × TakesVertical state word line shift b1
    × (width + to_left shift < b1 + to_right shift)

-- PastEnd: a run code that passes the width
abbrev pub RunsPast : ℕ → PageState → List Bool → Type 0
RunsPast width (running page line first makeup) word =
    (run : ℕ) × RunMayCome (run_color line first) (among_after makeup) run word
    × (width < length line.pixels + amount first + (amount makeup + run))
RunsPast width state word = ⊥

-- EmptyHorizontal: a second run of 0 pixels after a first run of 0
abbrev pub EndsEmpty : PageState → List Bool → Type 0
EndsEmpty (running page line (Some a0a1) None) word = (a0a1 ≡ 0) × InTable (other line.color) 0 word
EndsEmpty state word = ⊥

-- the code word is refused with this kind, whatever follows it
abbrev pub IsRefusedWord : ℕ → PageState → List Bool → CodeFaultKind → Type 0
IsRefusedWord width state word NoRows = EndsNoRow state word
IsRefusedWord width state word Extension = IsExtension state word
IsRefusedWord width state word Backwards = LeadsBack state word
IsRefusedWord width state word PastEnd = LeadsPast width state word ⊎ RunsPast width state word
IsRefusedWord width state word EmptyHorizontal = EndsEmpty state word
IsRefusedWord width state word kind = ⊥

-- ---- the kinds

-- MissingEofb: between rows only 0 bits are left, or nothing
abbrev pub MissesEnd : PageState → List Bool → Type 0
MissesEnd (between page) x = x ≡ replicate (length x) false
MissesEnd state x = ⊥

-- TooManyCodedRows: the page has 20,000 rows, and what is left is neither EOFB, nor a beginning of it, nor only 0 bits
abbrev pub HasTooMany : PageState → List Bool → Type 0
HasTooMany (between page) x = (max_rows ≤ length page.rows) × (¬ BeginsWithCode (between page) x) × (¬ EndsInCode (between page) x)
    × (¬ MissesEnd (between page) x)
HasTooMany state x = ⊥

-- the kinds that have a sentence of their own
abbrev pub IsNamed : ℕ → PageState → List Bool → CodeFaultKind → Type 0
IsNamed width state x MissingEofb = MissesEnd state x
IsNamed width state x TooManyCodedRows = HasTooMany state x
IsNamed width state x kind = (word : List Bool) × (rest : List Bool) × IsRefusedWord width state word kind × (x ≡ word ++ rest)

-- Why the page goes no further: a kind that has a sentence of its own; else Truncated, if the bits are the beginning of a valid code
-- word; else BadCode, as no valid code begins the bits.
abbrev pub PageKind : ℕ → PageState → List Bool → CodeFaultKind → Type 0
PageKind width state x Truncated = EndsInCode state x × ((kind : CodeFaultKind) → ¬ IsNamed width state x kind)
PageKind width state x BadCode = (¬ BeginsWithCode state x) × (¬ EndsInCode state x) × ((kind : CodeFaultKind) → ¬ IsNamed width state x
    kind)
PageKind width state x kind = IsNamed width state x kind

-- the refusal of a page: whole codes of a page, `place` bits, begin the bits, and for this reason the page goes no further
pub record IsRefusedPage (width : ℕ) (x : List Bool) (place : ℕ) (kind : CodeFaultKind) : Type 0 where
  pub front : List Bool
  pub rest : List Bool
  pub state : PageState
  pub split : x ≡ front ++ rest
  pub part : IsPagePart width front state
  pub place_is : place ≡ length front
  pub kind_is : PageKind width state rest kind
