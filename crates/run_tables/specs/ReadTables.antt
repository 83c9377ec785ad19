-- The tables by which run codes are read: an entry for each text of a number of bits (ITU-T T.4, 4.1.1, tables 2 and 3).
use Rattle.std.specs.Prelude.{ℕ, ◌+◌, ◌-◌, ◌*◌, ◌/◌, ◌%◌, ◌^◌, ◌++◌, Bool, false, ◌&&◌, List, [], ◌∷◌, drop, map, nat_lt, length, replicate, Option, Some, None, if◌then◌else◌}
use Rattle.std.specs.List.{range_with_len}
use Rattle.raster.specs.declared.row.Color.{Color}
use Rattle.raster.specs.declared.row.Color.TheVariants.{White, Black}
use Rattle.run_tables.specs.Codes.{code_word, codes_of}
use Rattle.run_tables.specs.CodeReading.{first_runs}
use Rattle.run_tables.specs.Numbers.{number_text}
use Rattle.run_tables.specs.Texts.{begins, pick}

-- the run and the length of the first code word that begins the bits, or 0 and 0
unfoldable pub entry_of : List (ℕ × List Bool) → List Bool → ℕ × ℕ
entry_of [] bits = (0, 0)
entry_of ((run, word) ∷ codes) bits = if begins word bits then (run, length word) else entry_of codes bits

-- the entries of all texts of `count` bits, after `zeros` 0 bits
unfoldable pub entries : List (ℕ × List Bool) → ℕ → ℕ → List (ℕ × ℕ)
entries codes zeros count = map (λ key. entry_of codes (replicate zeros false ++ number_text count key)) (range_with_len 0 (2 ^ count))

-- how many bits index the short table of a color
abbrev pub short_bits : Color → ℕ
short_bits White = 9
short_bits Black = 6

-- how many 0 bits begin each text of the long table of a color
abbrev pub long_zeros : Color → ℕ
long_zeros White = 7
long_zeros Black = 4

-- the long table of a color, followed by its short one
abbrev pub held_entries : Color → List (ℕ × ℕ)
held_entries color = entries (codes_of color) (long_zeros color) (13 - long_zeros color) ++ entries (codes_of color) 0 (short_bits color)

-- the run that was picked and the length of its code word, or 0 and 0
abbrev pub entry_picked : Color → Option ℕ → ℕ × ℕ
entry_picked color None = (0, 0)
entry_picked color (Some run) = (run, length (code_word color run))

-- the run and the length of the code word that begins the bits, or 0 and 0
abbrev pub entry_for : Color → List Bool → ℕ × ℕ
entry_for color bits = entry_picked color (pick (code_word color) (first_runs 104) bits)

-- an entry as one number: the run in its lowest 16 bits, the length above them
unfoldable pub packed : ℕ × ℕ → ℕ
packed entry = entry.0 + entry.1 * 65536

-- the run and the length of such a number
abbrev pub unpacked : ℕ → ℕ × ℕ
unpacked packed = (packed % 65536, packed / 65536)

-- a white run and the black one after it, and the length of their two code words together, as one number: the runs in its lowest two
-- octets, the length above them; 0 where one of the runs isn't there, or isn't below 64
abbrev pub pair_packed : ℕ × ℕ → ℕ × ℕ → ℕ
pair_packed (white, first) (black, second) =
    if nat_lt 0 first && nat_lt white 64 && (nat_lt 0 second && nat_lt 0 black && nat_lt black 64)
    then white + black * 256 + (first + second) * 65536 else 0

-- the white run and the black one after it whose code words begin the bits
unfoldable pub pair_of : List Bool → ℕ
pair_of bits = pair_packed (entry_of (codes_of White) bits) (entry_of (codes_of Black) (drop (entry_of (codes_of White) bits).1 bits))

-- those of all texts of 12 bits
unfoldable pub pairs : List ℕ
pairs = map (λ key. pair_of (number_text 12 key)) (range_with_len 0 (2 ^ 12))

-- the white run of such a number
abbrev pub pair_white : ℕ → ℕ
pair_white packed = packed % 256

-- the black run of such a number
abbrev pub pair_black : ℕ → ℕ
pair_black packed = packed / 256 % 256

-- the length of the two code words of such a number
abbrev pub pair_bits : ℕ → ℕ
pair_bits packed = packed / 65536
