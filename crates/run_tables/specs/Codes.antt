-- The run codes (ITU-T T.4, 4.1.1, tables 2 and 3): the code word of each run of each color.
use Rattle.std.specs.Prelude.{ℕ, ◌+◌, ◌-◌, ◌*◌, ◌/◌, ◌%◌, ◌++◌, Bool, List, [], ◌∷◌, map, nat_eq, nat_lt, codes, Contains, if◌then◌else◌}
use Rattle.std.specs.Prelude.{slice_index_or}
use Rattle.raster.specs.declared.row.Color.{Color}
use Rattle.raster.specs.declared.row.Color.TheVariants.{White, Black}

-- the bits that a text of the digits 0 and 1 writes
abbrev pub text : List ℕ → List Bool
text digits = map (λ digit. nat_eq digit 49) digits

-- white: the terminating codes of 0 to 63 pixels, and the make-up codes of the multiples of 64 up to 2,560 (T.4, tables 2 and 3)
abbrev pub white_codes : List (ℕ × List Bool)
white_codes =
    (0, text (codes "00110101")) ∷ (1, text (codes "000111")) ∷ (2, text (codes "0111")) ∷
    (3, text (codes "1000")) ∷ (4, text (codes "1011")) ∷ (5, text (codes "1100")) ∷
    (6, text (codes "1110")) ∷ (7, text (codes "1111")) ∷ (8, text (codes "10011")) ∷
    (9, text (codes "10100")) ∷ (10, text (codes "00111")) ∷ (11, text (codes "01000")) ∷
    (12, text (codes "001000")) ∷ (13, text (codes "000011")) ∷ (14, text (codes "110100")) ∷
    (15, text (codes "110101")) ∷ (16, text (codes "101010")) ∷ (17, text (codes "101011")) ∷
    (18, text (codes "0100111")) ∷ (19, text (codes "0001100")) ∷ (20, text (codes "0001000")) ∷
    (21, text (codes "0010111")) ∷ (22, text (codes "0000011")) ∷ (23, text (codes "0000100")) ∷
    (24, text (codes "0101000")) ∷ (25, text (codes "0101011")) ∷ (26, text (codes "0010011")) ∷
    (27, text (codes "0100100")) ∷ (28, text (codes "0011000")) ∷ (29, text (codes "00000010")) ∷
    (30, text (codes "00000011")) ∷ (31, text (codes "00011010")) ∷ (32, text (codes "00011011")) ∷
    (33, text (codes "00010010")) ∷ (34, text (codes "00010011")) ∷ (35, text (codes "00010100")) ∷
    (36, text (codes "00010101")) ∷ (37, text (codes "00010110")) ∷ (38, text (codes "00010111")) ∷
    (39, text (codes "00101000")) ∷ (40, text (codes "00101001")) ∷ (41, text (codes "00101010")) ∷
    (42, text (codes "00101011")) ∷ (43, text (codes "00101100")) ∷ (44, text (codes "00101101")) ∷
    (45, text (codes "00000100")) ∷ (46, text (codes "00000101")) ∷ (47, text (codes "00001010")) ∷
    (48, text (codes "00001011")) ∷ (49, text (codes "01010010")) ∷ (50, text (codes "01010011")) ∷
    (51, text (codes "01010100")) ∷ (52, text (codes "01010101")) ∷ (53, text (codes "00100100")) ∷
    (54, text (codes "00100101")) ∷ (55, text (codes "01011000")) ∷ (56, text (codes "01011001")) ∷
    (57, text (codes "01011010")) ∷ (58, text (codes "01011011")) ∷ (59, text (codes "01001010")) ∷
    (60, text (codes "01001011")) ∷ (61, text (codes "00110010")) ∷ (62, text (codes "00110011")) ∷
    (63, text (codes "00110100")) ∷ (64, text (codes "11011")) ∷ (128, text (codes "10010")) ∷
    (192, text (codes "010111")) ∷ (256, text (codes "0110111")) ∷ (320, text (codes "00110110")) ∷
    (384, text (codes "00110111")) ∷ (448, text (codes "01100100")) ∷
    (512, text (codes "01100101")) ∷ (576, text (codes "01101000")) ∷
    (640, text (codes "01100111")) ∷ (704, text (codes "011001100")) ∷
    (768, text (codes "011001101")) ∷ (832, text (codes "011010010")) ∷
    (896, text (codes "011010011")) ∷ (960, text (codes "011010100")) ∷
    (1024, text (codes "011010101")) ∷ (1088, text (codes "011010110")) ∷
    (1152, text (codes "011010111")) ∷ (1216, text (codes "011011000")) ∷
    (1280, text (codes "011011001")) ∷ (1344, text (codes "011011010")) ∷
    (1408, text (codes "011011011")) ∷ (1472, text (codes "010011000")) ∷
    (1536, text (codes "010011001")) ∷ (1600, text (codes "010011010")) ∷
    (1664, text (codes "011000")) ∷ (1728, text (codes "010011011")) ∷
    (1792, text (codes "00000001000")) ∷ (1856, text (codes "00000001100")) ∷
    (1920, text (codes "00000001101")) ∷ (1984, text (codes "000000010010")) ∷
    (2048, text (codes "000000010011")) ∷ (2112, text (codes "000000010100")) ∷
    (2176, text (codes "000000010101")) ∷ (2240, text (codes "000000010110")) ∷
    (2304, text (codes "000000010111")) ∷ (2368, text (codes "000000011100")) ∷
    (2432, text (codes "000000011101")) ∷ (2496, text (codes "000000011110")) ∷
    (2560, text (codes "000000011111")) ∷ []

-- black: the codes of the same runs (T.4, tables 2 and 3)
abbrev pub black_codes : List (ℕ × List Bool)
black_codes =
    (0, text (codes "0000110111")) ∷ (1, text (codes "010")) ∷ (2, text (codes "11")) ∷
    (3, text (codes "10")) ∷ (4, text (codes "011")) ∷ (5, text (codes "0011")) ∷
    (6, text (codes "0010")) ∷ (7, text (codes "00011")) ∷ (8, text (codes "000101")) ∷
    (9, text (codes "000100")) ∷ (10, text (codes "0000100")) ∷ (11, text (codes "0000101")) ∷
    (12, text (codes "0000111")) ∷ (13, text (codes "00000100")) ∷ (14, text (codes "00000111")) ∷
    (15, text (codes "000011000")) ∷ (16, text (codes "0000010111")) ∷
    (17, text (codes "0000011000")) ∷ (18, text (codes "0000001000")) ∷
    (19, text (codes "00001100111")) ∷ (20, text (codes "00001101000")) ∷
    (21, text (codes "00001101100")) ∷ (22, text (codes "00000110111")) ∷
    (23, text (codes "00000101000")) ∷ (24, text (codes "00000010111")) ∷
    (25, text (codes "00000011000")) ∷ (26, text (codes "000011001010")) ∷
    (27, text (codes "000011001011")) ∷ (28, text (codes "000011001100")) ∷
    (29, text (codes "000011001101")) ∷ (30, text (codes "000001101000")) ∷
    (31, text (codes "000001101001")) ∷ (32, text (codes "000001101010")) ∷
    (33, text (codes "000001101011")) ∷ (34, text (codes "000011010010")) ∷
    (35, text (codes "000011010011")) ∷ (36, text (codes "000011010100")) ∷
    (37, text (codes "000011010101")) ∷ (38, text (codes "000011010110")) ∷
    (39, text (codes "000011010111")) ∷ (40, text (codes "000001101100")) ∷
    (41, text (codes "000001101101")) ∷ (42, text (codes "000011011010")) ∷
    (43, text (codes "000011011011")) ∷ (44, text (codes "000001010100")) ∷
    (45, text (codes "000001010101")) ∷ (46, text (codes "000001010110")) ∷
    (47, text (codes "000001010111")) ∷ (48, text (codes "000001100100")) ∷
    (49, text (codes "000001100101")) ∷ (50, text (codes "000001010010")) ∷
    (51, text (codes "000001010011")) ∷ (52, text (codes "000000100100")) ∷
    (53, text (codes "000000110111")) ∷ (54, text (codes "000000111000")) ∷
    (55, text (codes "000000100111")) ∷ (56, text (codes "000000101000")) ∷
    (57, text (codes "000001011000")) ∷ (58, text (codes "000001011001")) ∷
    (59, text (codes "000000101011")) ∷ (60, text (codes "000000101100")) ∷
    (61, text (codes "000001011010")) ∷ (62, text (codes "000001100110")) ∷
    (63, text (codes "000001100111")) ∷ (64, text (codes "0000001111")) ∷
    (128, text (codes "000011001000")) ∷ (192, text (codes "000011001001")) ∷
    (256, text (codes "000001011011")) ∷ (320, text (codes "000000110011")) ∷
    (384, text (codes "000000110100")) ∷ (448, text (codes "000000110101")) ∷
    (512, text (codes "0000001101100")) ∷ (576, text (codes "0000001101101")) ∷
    (640, text (codes "0000001001010")) ∷ (704, text (codes "0000001001011")) ∷
    (768, text (codes "0000001001100")) ∷ (832, text (codes "0000001001101")) ∷
    (896, text (codes "0000001110010")) ∷ (960, text (codes "0000001110011")) ∷
    (1024, text (codes "0000001110100")) ∷ (1088, text (codes "0000001110101")) ∷
    (1152, text (codes "0000001110110")) ∷ (1216, text (codes "0000001110111")) ∷
    (1280, text (codes "0000001010010")) ∷ (1344, text (codes "0000001010011")) ∷
    (1408, text (codes "0000001010100")) ∷ (1472, text (codes "0000001010101")) ∷
    (1536, text (codes "0000001011010")) ∷ (1600, text (codes "0000001011011")) ∷
    (1664, text (codes "0000001100100")) ∷ (1728, text (codes "0000001100101")) ∷
    (1792, text (codes "00000001000")) ∷ (1856, text (codes "00000001100")) ∷
    (1920, text (codes "00000001101")) ∷ (1984, text (codes "000000010010")) ∷
    (2048, text (codes "000000010011")) ∷ (2112, text (codes "000000010100")) ∷
    (2176, text (codes "000000010101")) ∷ (2240, text (codes "000000010110")) ∷
    (2304, text (codes "000000010111")) ∷ (2368, text (codes "000000011100")) ∷
    (2432, text (codes "000000011101")) ∷ (2496, text (codes "000000011110")) ∷
    (2560, text (codes "000000011111")) ∷ []

-- the 104 codes of a color: each run with its code word (T.4, 4.1.1, tables 2 and 3)
abbrev pub codes_of : Color → List (ℕ × List Bool)
codes_of White = white_codes
codes_of Black = black_codes

-- the triple (color, run, code word) is in the table
abbrev pub InTable : Color → ℕ → List Bool → Type 0
InTable color run bits = Contains (codes_of color) (run, bits)

-- the run of the code at a place of a color's table: 0 to 63, then the multiples of 64
abbrev pub run_at : ℕ → ℕ
run_at place = if nat_lt place 64 then place else 64 * (place - 63)

-- the place of a run's code in the table, if the run has one
abbrev pub place_of : ℕ → ℕ
place_of run = if nat_lt run 64 then run else 63 + run / 64

-- the code word of a run's code, if the run has one
unfoldable pub code_word : Color → ℕ → List Bool
code_word color run = slice_index_or (map (λ (code : ℕ × List Bool). code.1) (codes_of color)) (place_of run) []

-- the code words of a run: its terminating code; or the make-up code of the largest multiple of 64 not above it, and the terminating code
-- of the rest
abbrev pub run_words : Color → ℕ → List Bool
run_words color run = if nat_lt run 64 then code_word color run else code_word color (64 * (run / 64)) ++ code_word color (run % 64)
