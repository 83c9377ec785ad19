-- Why bits are refused at a place that needs a run code (ITU-T T.4, 4.1.1): one sentence for each kind, over the tables of codes alone.
-- How bits are read doesn't matter here.
use Rattle.std.specs.Prelude.{ℕ, ◌≡◌, ◌+◌, ◌<◌, ◌≤◌, ◌⊎◌, Bool, List, [], ◌∷◌, ◌++◌, length, sum}
use Rattle.raster.specs.declared.row.Color.{Color}
use Rattle.raster.specs.declared.row.Color.TheVariants.{White}
use Rattle.raster.specs.Pixels.{other}
use Rattle.run_tables.specs.declared.fault.CodeFault.{CodeFault}
use Rattle.run_tables.specs.declared.fault.CodeFaultKind.{CodeFaultKind}
use Rattle.run_tables.specs.declared.fault.CodeFaultKind.TheVariants.{BadCode, Truncated, RunTooLong}
use Rattle.run_tables.specs.declared.reader.Among.{Among}
use Rattle.run_tables.specs.declared.reader.Among.TheVariants.{AllCodes, TerminatingCodes}
use Rattle.run_tables.specs.Codes.{InTable}
use Rattle.run_tables.specs.Reading.{Reading, rest_of}
use Rattle.run_tables.specs.RunWords.{runs_words}

-- ---- one code

-- a valid code: any code of the color; after a make-up code only a terminating one, whose run is below 64
abbrev pub MayCome : Color → Among → ℕ → List Bool → Type 0
MayCome color AllCodes run word = InTable color run word
MayCome color TerminatingCodes run word = InTable color run word × (run < 64)

-- a valid code begins the bits, and has this run
abbrev pub BeginsWithCode : Color → Among → List Bool → ℕ → Type 0
BeginsWithCode color among x run = (word : List Bool) × (rest : List Bool) × MayCome color among run word × (x ≡ word ++ rest)

-- the bits are the beginning of a valid code word, and a bit or more of it is missing
abbrev pub EndsInCode : Color → Among → List Bool → Type 0
EndsInCode color among x =
    (run : ℕ) × (word : List Bool) × (bit : Bool) × (more : List Bool) × MayCome color among run word × (word ≡ x ++ bit ∷ more)

-- Why no code is there. Truncated: the bits are the beginning of a valid code word, and a bit or more of it is missing. BadCode: no valid
-- code begins the bits, and they aren't such a beginning.
abbrev pub CodeKind : Color → Among → List Bool → CodeFaultKind → Type 0
CodeKind color among x Truncated = EndsInCode color among x
CodeKind color among x BadCode = ((run : ℕ) → ¬ BeginsWithCode color among x run) × (¬ EndsInCode color among x)
CodeKind color among x kind = ⊥

-- ---- a code of a row

-- a valid code begins the bits, and takes a row of `so_far` pixels past the width
abbrev pub PassesWidth : ℕ → ℕ → Color → Among → List Bool → Type 0
PassesWidth width so_far color among x = (run : ℕ) × BeginsWithCode color among x run × (width < so_far + run)

-- Why a row of `so_far` pixels, with those of a make-up code just before, goes no further. RunTooLong: a valid code begins the bits and
-- takes the row past the width. Else why no code is there.
abbrev pub RowKind : ℕ → ℕ → Color → Among → List Bool → CodeFaultKind → Type 0
RowKind width so_far color among x RunTooLong = PassesWidth width so_far color among x
RowKind width so_far color among x kind = CodeKind color among x kind

-- ---- the whole codes before it

-- the color after alternating runs, the first of them in this one
abbrev pub color_after : Color → List ℕ → Color
color_after color [] = color
color_after color (run ∷ runs) = color_after (other color) runs

-- whole runs, white first, that don't fill the width: their code words, their pixels, and the color after them
pub record AreRuns (width : ℕ) (front : List Bool) (so_far : ℕ) (color : Color) : Type 0 where
  pub runs : List ℕ
  pub words : front ≡ runs_words White runs
  pub sum_is : so_far ≡ sum runs
  pub color_is : color ≡ color_after White runs
  pub short : so_far < width

-- whole runs that don't fill the width, and after them a make-up code within the width
pub record EndsWithMakeUp (width : ℕ) (front : List Bool) (so_far : ℕ) (color : Color) : Type 0 where
  pub before : List Bool
  pub pixels : ℕ
  pub makeup : ℕ
  pub word : List Bool
  pub runs : AreRuns width before pixels color
  pub listed : InTable color makeup word
  pub long : 64 ≤ makeup
  pub words : front ≡ before ++ word
  pub sum_is : so_far ≡ pixels + makeup
  pub within : so_far ≤ width

-- whole codes of a row that isn't full yet: runs, white first, and perhaps a make-up code; the pixels so far, the color of the next code,
-- and which codes are valid
abbrev pub IsRowPart : ℕ → List Bool → ℕ → Color → Among → Type 0
IsRowPart width front so_far color AllCodes = AreRuns width front so_far color
IsRowPart width front so_far color TerminatingCodes = EndsWithMakeUp width front so_far color

-- ---- refusals

-- the refusal of a row: whole codes of a row of the width, `place` bits, begin the bits, and for this reason the row goes no further
pub record IsRefusedRow (width : ℕ) (x : List Bool) (place : ℕ) (kind : CodeFaultKind) : Type 0 where
  pub front : List Bool
  pub rest : List Bool
  pub so_far : ℕ
  pub color : Color
  pub among : Among
  pub split : x ≡ front ++ rest
  pub part : IsRowPart width front so_far color among
  pub place_is : place ≡ length front
  pub kind_is : RowKind width so_far color among rest kind

-- no code is at the reader's place, for this reason
abbrev pub IsRefusedCode : Color → Among → Reading → CodeFault → Type 0
IsRefusedCode color among reader fault = (fault.place ≡ reader.place) × CodeKind color among (rest_of reader) fault.kind

-- no code is at the reader's place, or no terminating code after the make-up code that is there, for this reason
abbrev pub IsRefusedRun : Color → Reading → CodeFault → Type 0
IsRefusedRun color reader fault = IsRefusedCode color AllCodes reader fault ⊎ ((makeup : ℕ) × (word : List Bool) × (rest : List Bool)
    × InTable color makeup word × (64 ≤ makeup) × (rest_of reader ≡ word ++ rest) × (fault.place ≡ reader.place + length word)
    × CodeKind color TerminatingCodes rest fault.kind)
