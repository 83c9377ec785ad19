-- Laws of the run codes (ITU-T T.4, 4.1.1, tables 2 and 3).
use Rattle.std.specs.Prelude.{ℕ, ◌≡◌, Bool, true, false, List, length, replicate}
use Rattle.raster.specs.declared.row.Color.{Color}
use Rattle.run_tables.specs.Codes.{InTable}
use Rattle.run_tables.specs.Texts.{begins}

-- law: at most one code of a color begins any bits
abbrev pub OneCode : Type 0
OneCode = (color : Color) (m n : ℕ) (a b bits : List Bool) → InTable color m a → InTable color n b → begins a bits ≡ true
    → begins b bits ≡ true → (m ≡ n) × (a ≡ b)

-- law: any 13 bits that don't begin with eight 0 bits begin with a code, of either color
abbrev pub CodesCover : Type 0
CodesCover = (color : Color) (bits : List Bool) → length bits ≡ 13 → begins (replicate 8 false) bits ≡ false
    → (run : ℕ) × (code : List Bool) × InTable color run code × (begins code bits ≡ true)
