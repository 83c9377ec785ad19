-- The code words as the program writes them: numbers and lengths.
use Rattle.std.specs.Prelude.{ℕ, ◌/◌, ◌%◌, ◌^◌, ◌++◌, Bool, List, map, nat_lt}
use Rattle.std.specs.List.{range_with_len}
use Rattle.raster.specs.declared.row.Color.TheVariants.{White, Black}
use Rattle.run_tables.specs.Codes.{code_word}
use Rattle.run_tables.specs.Numbers.{number_text}

-- the code words that pairs of a number and a length write
abbrev pub as_words : List (ℕ × ℕ) → List (List Bool)
as_words held = map (λ (word : ℕ × ℕ). number_text word.1 word.0) held

-- the code words of a table
abbrev pub words_of : List (ℕ × List Bool) → List (List Bool)
words_of codes = map (λ (code : ℕ × List Bool). code.1) codes

-- the number has no more bits than the code word
abbrev pub is_small : ℕ × ℕ → Bool
is_small word = nat_lt word.0 (2 ^ word.1)

-- the bits that a number writes whose lowest 24 bits are their value and whose higher ones their number
abbrev pub packed_text : ℕ → List Bool
packed_text packed = number_text (packed / 2 ^ 24) (packed % 2 ^ 24)

-- the number is one of at most 21 bits
abbrev pub is_short : ℕ → Bool
is_short packed = nat_lt (packed / 2 ^ 24) 22

-- the code words of a black run and the white one after it, each below 64, by 64 times the first and the second
unfoldable pub pair_words : List (List Bool)
pair_words = map (λ key. code_word Black (key / 64) ++ code_word White (key % 64)) (range_with_len 0 4096)
