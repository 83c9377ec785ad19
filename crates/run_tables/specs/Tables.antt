-- The code tables as the program holds them.
use Rattle.std.specs.Prelude.{ℕ, Bool, List, map}
use Rattle.run_tables.specs.declared.table.Code.{Code}
use Rattle.run_tables.specs.Codes.{text}

-- the run and the code word of a code as the program holds it
abbrev pub pair_of : Code → ℕ × List Bool
pair_of code = (code.0, text code.1.now)

-- the runs and the code words of a list of codes as the program holds them
abbrev pub as_pairs : List Code → List (ℕ × List Bool)
as_pairs held = map pair_of held
