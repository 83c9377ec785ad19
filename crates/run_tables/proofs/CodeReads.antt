use Rattle.std.proofs.Common.{◌≡◌, ℕ, Bool, true, List, map, Some, None, refl}
use Rattle.raster.specs.declared.row.Color.{Color}
use Rattle.raster.specs.declared.row.Color.TheVariants.{White, Black}
use Rattle.run_tables.specs.declared.fault.CodeFault.{CodeFault}
use Rattle.run_tables.specs.declared.reader.Among.{Among}
use Rattle.run_tables.specs.declared.reader.Among.TheVariants.{AllCodes, TerminatingCodes}
use Rattle.run_tables.specs.Codes.{code_word}
use Rattle.run_tables.specs.CodeReading.{first_runs, runs_among, kind_among, IsNext, RefusesCode}
use Rattle.run_tables.specs.Reading.{Reading, rest_of}
use Rattle.run_tables.specs.Texts.{apart, pick}
use Rattle.run_tables.proofs.BeginsLemmas.{pick_begun, pick_begins}

-- of no two codes of a color the code word of one begins that of the other
pub codes_apart : (color : Color) (among : Among) → apart (map (code_word color) (runs_among among)) ≡ true
unfolding code_word first_runs
codes_apart White AllCodes = refl
codes_apart White TerminatingCodes = refl
codes_apart Black AllCodes = refl
codes_apart Black TerminatingCodes = refl

-- a code that is first is the one that is picked
pub pick_stands : (color : Color) (among : Among) (bits : List Bool) (run : ℕ) → IsNext color among bits run
    → pick (code_word color) (runs_among among) bits ≡ Some run
pick_stands color among bits run stands = pick_begun (code_word color) (runs_among among) run bits (codes_apart color among) stands.0
    stands.1

-- the code that is picked is first
pub stands_pick : (color : Color) (among : Among) (bits : List Bool) (run : ℕ)
    → pick (code_word color) (runs_among among) bits ≡ Some run → IsNext color among bits run
stands_pick color among bits run e = pick_begins (code_word color) (runs_among among) run bits e

-- where none is picked, none is
pub none_stands : (color : Color) (among : Among) (bits : List Bool) → pick (code_word color) (runs_among among) bits ≡ None → (run : ℕ)
    → ¬ IsNext color among bits run
none_stands color among bits e run stands = let found = pick_stands color among bits run stands in cc

-- only one code is first
pub one_stands : (color : Color) (among : Among) (bits : List Bool) (m n : ℕ) → IsNext color among bits m → IsNext color among bits n
    → m ≡ n
one_stands color among bits m n first second =
    let a = pick_stands color among bits m first in
    let b = pick_stands color among bits n second in
    cc

-- the refusal of a code, from the pick
pub refuses_pick : (color : Color) (among : Among) (reader : Reading) (fault : CodeFault)
    → pick (code_word color) (runs_among among) (rest_of reader) ≡ None
    → fault ≡ record { place = reader.place; kind = kind_among color among (rest_of reader) } → RefusesCode color among reader fault
refuses_pick color among reader fault none is = rw is (record {
  none = none_stands color among (rest_of reader) none;
  place = refl;
  kind =
      refl;
})
