-- Worked rows: by computing alone.
use Rattle.std.proofs.Common.{ℕ, ◌≡◌, ◌≤◌, Bool, List, [], replicate, refl, arith}
use Rattle.std.specs.Prelude.{Ok, Err, codes}
use Rattle.raster.specs.declared.row.Color.TheVariants.{White, Black}
use Rattle.run_tables.specs.declared.fault.CodeFaultKind.{CodeFaultKind}
use Rattle.run_tables.specs.declared.fault.CodeFaultKind.TheVariants.{BadCode, Truncated, RunTooLong}
use Rattle.run_tables.specs.Codes.{text, code_word}
use Rattle.run_tables.specs.KindLaws.{AreRefusedRows}
use Rattle.run_tables.specs.Kinds.{IsRefusedRow}
use Rattle.run_tables.specs.RowFronts.{run_items, after_code, look_code, reading, read_row}
use Rattle.run_tables.proofs.RowRefusals.{refused_row}

-- the widest row of a letter page, all white
white_row : read_row 1728 (text (codes "01001101100110101")) ≡ Ok (replicate 1728 White, 17)
unfolding reading code_word run_items after_code look_code
white_row = refl

-- black rows begin with a white run of 0
black_row : read_row 8 (text (codes "00110101000101")) ≡ Ok (replicate 8 Black, 14)
unfolding reading code_word run_items after_code look_code
black_row = refl

widest_row : read_row 2432 (text (codes "001101010000000111010000110111")) ≡ Ok (replicate 2432 Black, 30)
unfolding reading code_word run_items after_code look_code
widest_row = refl

-- what follows a row is not looked at
followed : read_row 8 (text (codes "001101010001010000")) ≡ Ok (replicate 8 Black, 14)
unfolding reading code_word run_items after_code look_code
followed = refl

-- no bit, and seven 0 bits, which begin a make-up code
empty : read_row 8 [] ≡ Err (0, Truncated)
unfolding reading code_word run_items after_code look_code
empty = refl

seven : read_row 8 (text (codes "0000000")) ≡ Err (0, Truncated)
unfolding reading code_word run_items after_code look_code
seven = refl

-- eight 0 bits begin none
eight : read_row 8 (text (codes "00000000")) ≡ Err (0, BadCode)
unfolding reading code_word run_items after_code look_code
eight = refl

-- after a make-up code seven 0 bits begin no terminating code
after_makeup : read_row 128 (text (codes "110110000000")) ≡ Err (5, BadCode)
unfolding reading code_word run_items after_code look_code
after_makeup = refl

-- a make-up code past the width, whatever follows it
makeup_too_long : read_row 63 (text (codes "1101100000000")) ≡ Err (0, RunTooLong)
unfolding reading code_word run_items after_code look_code
makeup_too_long = refl

-- a make-up code within the width, and a terminating code past it
rest_too_long : read_row 65 (text (codes "110110111")) ≡ Err (5, RunTooLong)
unfolding reading code_word run_items after_code look_code
rest_too_long = refl

-- a code that is cut, of runs that are longer than the row
cut_past : read_row 8 (text (codes "001101010000001")) ≡ Err (8, Truncated)
unfolding reading code_word run_items after_code look_code
cut_past = refl

-- after a make-up code no bit, or another make-up code
nothing_after : read_row 128 (text (codes "11011")) ≡ Err (5, Truncated)
unfolding reading code_word run_items after_code look_code
nothing_after = refl

makeup_after : read_row 192 (text (codes "1101111011")) ≡ Err (5, BadCode)
unfolding reading code_word run_items after_code look_code
makeup_after = refl

-- a terminating code past the width
too_long : read_row 8 (text (codes "10100")) ≡ Err (0, RunTooLong)
unfolding reading code_word run_items after_code look_code
too_long = refl

pub refused_rows : AreRefusedRows
refused_rows = record {
  nothing = at 8 [] 0 Truncated (omega arith) (omega arith) empty;
  seven_zeros = at 8 (text (codes "0000000")) 0 Truncated (omega arith) (omega arith) seven;
  eight_zeros = at 8 (text (codes "00000000")) 0 BadCode (omega arith) (omega arith) eight;
  cut_past_the_width = at 8 (text (codes "001101010000001")) 8 Truncated (omega arith) (omega arith) cut_past;
  nothing_after_makeup = at 128 (text (codes "11011")) 5 Truncated (omega arith) (omega arith) nothing_after;
  seven_zeros_after_makeup = at 128 (text (codes "110110000000")) 5 BadCode (omega arith) (omega arith) after_makeup;
  makeup_after_makeup = at 192 (text (codes "1101111011")) 5 BadCode (omega arith) (omega arith) makeup_after;
  makeup_too_long = at 63 (text (codes "1101100000000")) 0 RunTooLong (omega arith) (omega arith) makeup_too_long;
  too_long = at 8 (text (codes "10100")) 0 RunTooLong (omega arith) (omega arith) too_long;
  rest_too_long = at 65 (text (codes "110110111")) 5 RunTooLong (omega arith) (omega arith) rest_too_long;
}
  where
    at : (width : ℕ) (x : List Bool) (place : ℕ) (kind : CodeFaultKind) → 1 ≤ width → width ≤ 2432 → read_row width x ≡ Err (place, kind)
        → IsRefusedRow width x place kind
    at width x place kind some most e = refused_row width x place kind (some, most) e
