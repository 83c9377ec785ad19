-- Run codes at the beginning of bits (ITU-T T.4, 4.1.1).
use Rattle.std.specs.Prelude.{ℕ, ◌≡◌, ◌+◌, ◌-◌, ◌<◌, ◌≤◌, ◌⊎◌, Bool, true, false, List, map, Contains, Some, None, Result, Ok, Err}
use Rattle.std.specs.Prelude.{if◌then◌else◌}
use Rattle.std.specs.List.{range_with_len}
use Rattle.raster.specs.Pixels.{other}
use Rattle.raster.specs.declared.row.Color.{Color}
use Rattle.run_tables.specs.declared.fault.CodeFault.{CodeFault}
use Rattle.run_tables.specs.declared.fault.CodeFaultKind.{CodeFaultKind}
use Rattle.run_tables.specs.declared.fault.CodeFaultKind.TheVariants.{BadCode, Truncated}
use Rattle.run_tables.specs.declared.reader.Among.{Among}
use Rattle.run_tables.specs.declared.reader.Among.TheVariants.{AllCodes, TerminatingCodes}
use Rattle.run_tables.specs.declared.reader.RunCode.{RunCode}
use Rattle.run_tables.specs.declared.reader.RunCode.TheVariants.{MakeUp, Terminating}
use Rattle.run_tables.specs.Codes.{code_word, run_words, run_at}
use Rattle.run_tables.specs.Reading.{Reading, rest_of, after}
use Rattle.run_tables.specs.Texts.{begins, pick, is_cut}

-- how many of a color's codes may come: all 104, or the 64 terminating ones
abbrev pub count_among : Among → ℕ
count_among AllCodes = 104
count_among TerminatingCodes = 64

-- the runs of the first `count` codes of a table
unfoldable pub first_runs : ℕ → List ℕ
first_runs count = map run_at (range_with_len 0 count)

-- the runs whose codes may come
abbrev pub runs_among : Among → List ℕ
runs_among among = first_runs (count_among among)

-- why no code is there: Truncated if the bits end inside a code or before one, else BadCode
abbrev pub kind_among : Color → Among → List Bool → CodeFaultKind
kind_among color among bits = if is_cut (code_word color) (runs_among among) bits then Truncated else BadCode

-- the run has a valid code here, and its code word begins the bits
abbrev pub IsNext : Color → Among → List Bool → ℕ → Type 0
IsNext color among bits run = Contains (runs_among among) run × (begins (code_word color run) bits ≡ true)

-- no valid code begins the bits that are left; the refusal has the reader's place and the kind of the bits there
pub record RefusesCode (color : Color) (among : Among) (reader : Reading) (fault : CodeFault) : Type 0 where
  pub none : (run : ℕ) → ¬ IsNext color among (rest_of reader) run
  pub place : fault.place ≡ reader.place
  pub kind : fault.kind ≡ kind_among color among (rest_of reader)

-- one code was read; or no valid code begins the bits that are left, and the reader didn't move
abbrev pub ReadsCode : Color → Among → Reading → Reading → Result ℕ CodeFault → Type 0
ReadsCode color among old new (Ok run) = IsNext color among (rest_of old) run × (new ≡ after (code_word color run) old)
ReadsCode color among old new (Err fault) = RefusesCode color among old fault × (new ≡ old)

-- reading one code by the table's order: the first code whose code word begins the bits that are left; or none, with its kind
abbrev pub PicksCode : Color → Among → Reading → Reading → Result ℕ CodeFault → Type 0
PicksCode color among old new (Ok run) = (pick (code_word color) (runs_among among) (rest_of old) ≡ Some run)
    × (new ≡ after (code_word color run) old)
PicksCode color among old new (Err fault) = (pick (code_word color) (runs_among among) (rest_of old) ≡ None)
    × (fault ≡ record { place = old.place; kind = kind_among color among (rest_of old) }) × (new ≡ old)

-- one code of the color was read, a terminating code (below 64) or a make-up code; or no code begins the bits that are left, and the
-- reader didn't move
abbrev pub ReadsRunCode : Color → Reading → Reading → Result RunCode CodeFault → Type 0
ReadsRunCode color old new (Ok (Terminating run)) = (run < 64) × ReadsCode color AllCodes old new (Ok run)
ReadsRunCode color old new (Ok (MakeUp run)) = (64 ≤ run) × ReadsCode color AllCodes old new (Ok run)
ReadsRunCode color old new (Err fault) = ReadsCode color AllCodes old new (Err fault)

-- the refusal of a run: no code is there, or no terminating code after a make-up code
abbrev pub RefusesRun : Color → Reading → CodeFault → Type 0
RefusesRun color old fault = RefusesCode color AllCodes old fault ⊎ ((high : ℕ) × (64 ≤ high) × IsNext color AllCodes (rest_of old) high
    × RefusesCode color TerminatingCodes (after (code_word color high) old) fault)

-- the code words of one run were read; or no run's code words begin the bits that are left, and the reader didn't move
abbrev pub ReadsRun : Color → Reading → Reading → Result ℕ CodeFault → Type 0
ReadsRun color old new (Ok run) = (run ≤ 2623) × (begins (run_words color run) (rest_of old) ≡ true)
    × (new ≡ after (run_words color run) old)
ReadsRun color old new (Err fault) = ((run : ℕ) → run ≤ 2623
    → begins (run_words color run) (rest_of old) ≡ false) × RefusesRun color old fault × (new ≡ old)

-- a make-up code of at most `room` pixels was read at the beginning of a run
abbrev pub BeginsRun : Color → ℕ → Reading → Reading → ℕ → Type 0
BeginsRun color room old new makeup = PicksCode color AllCodes old new (Ok makeup) × (64 ≤ makeup) × (makeup ≤ room)

-- a terminating code of at most `room` pixels was read
abbrev pub EndsRun : Color → Among → ℕ → Reading → Reading → ℕ → Type 0
EndsRun color among room old new run = PicksCode color among old new (Ok run) × (run < 64) × (run ≤ room)

-- no valid code begins the bits that are left; or one of more pixels than `room` does, and is refused with the kind `past`
abbrev pub RefusesCodeWithin : Color → Among → ℕ → CodeFaultKind → Reading → CodeFault → Type 0
RefusesCodeWithin color among room past old fault =
    ((new : Reading) × PicksCode color among old new (Err fault)) ⊎
    ((run : ℕ) × (new : Reading) × PicksCode color among old new (Ok run) × (room < run)
    × (fault ≡ record { place = old.place; kind = past }))

-- A run of at most `room` pixels was read: a terminating code, or a make-up code and a terminating code. A code that takes it past the
-- room is refused where the code begins.
abbrev pub ReadsRunWithin : Color → ℕ → CodeFaultKind → Reading → Reading → Result ℕ CodeFault → Type 0
ReadsRunWithin color room past old new (Ok run) =
    EndsRun color AllCodes room old new run ⊎
    ((makeup : ℕ) × (rest : ℕ) × (between : Reading) × BeginsRun color room old between makeup
    × EndsRun color TerminatingCodes (room - makeup) between new rest × (run ≡ makeup + rest))
ReadsRunWithin color room past old new (Err fault) =
    RefusesCodeWithin color AllCodes room past old fault ⊎
    ((makeup : ℕ) × (between : Reading) × BeginsRun color room old between makeup
    × RefusesCodeWithin color TerminatingCodes (room - makeup) past between fault)

-- two runs were read, the first of a color and the second of the other one, together at most `room` pixels
pub record ReadsTwoRuns (color : Color) (room : ℕ) (past : CodeFaultKind) (old new : Reading) (first second : ℕ) : Type 0 where
  pub between : Reading
  pub one : ReadsRunWithin color room past old between (Ok first)
  pub two : ReadsRunWithin (other color) (room - first) past between new (Ok second)
