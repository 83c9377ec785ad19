-- Worked pages: by computing alone.
use Rattle.std.proofs.Common.{ℕ, ◌≡◌, ◌≤◌, Bool, List, ◌∷◌, [], replicate, refl, arith}
use Rattle.std.specs.Prelude.{Ok, Err, codes}
use Rattle.raster.specs.declared.row.Color.TheVariants.{White, Black}
use Rattle.run_tables.specs.declared.fault.CodeFaultKind.{CodeFaultKind}
use Rattle.run_tables.specs.declared.fault.CodeFaultKind.TheVariants.{NoRows, BadCode, Truncated, RunTooLong}
use Rattle.run_tables.specs.Codes.{text, code_word}
use Rattle.run_tables.specs.RowFronts.{run_items, after_code, look_code, read_row}
use Rattle.run_tables.specs.RowFronts.{reading as row_reading}
use Rattle.page_code.specs.OneDimension.OwnRuns.{own_runs}
use Rattle.page_code.specs.OneDimension.Pages.{page_words}
use Rattle.page_code.specs.OneDimension.Fronts.{reading, read_page, bits_of_five}
use Rattle.page_code.specs.OneDimension.KindLaws.{AreRefusedPages}
use Rattle.page_code.specs.OneDimension.Kinds.{IsRefusedPage}
use Rattle.page_code.proofs.OneDimension.PageRefusals.{refused_page}

-- EOL, and eight 0 bits and a 1, which begin no code
bad : read_page 8 (text (codes "000000000001000000001000")) ≡ Err (12, BadCode)
unfolding reading code_word run_items after_code look_code bits_of_five
bad = refl

-- EOL, a white make-up code of 64
long : read_page 8 (text (codes "000000000001101000000000")) ≡ Err (12, RunTooLong)
unfolding reading code_word run_items after_code look_code bits_of_five
long = refl

-- EOL and only 0 bits
none : read_page 8 (text (codes "000000000001000000000000")) ≡ Err (12, NoRows)
unfolding reading code_word run_items after_code look_code bits_of_five
none = refl

-- two EOLs
two : read_page 8 (text (codes "000000000001000000000001")) ≡ Err (12, NoRows)
unfolding reading code_word run_items after_code look_code bits_of_five
two = refl

-- nothing
nothing : read_page 8 [] ≡ Err (0, NoRows)
unfolding reading code_word run_items after_code look_code bits_of_five
nothing = refl

-- only 0 bits
zeros : read_page 8 (text (codes "00000000")) ≡ Err (0, NoRows)
unfolding reading code_word run_items after_code look_code bits_of_five
zeros = refl

-- EOL, white 3 of 8, and the bits end: inside the first row, in front of a code
inside_row : read_page 8 (text (codes "0000000000011000")) ≡ Err (16, Truncated)
unfolding reading code_word run_items after_code look_code bits_of_five
inside_row = refl

-- EOL, white 3 of 8, and seven 0 bits, which begin a make-up code
inside_zeros : read_page 8 (text (codes "00000000000110000000000")) ≡ Err (16, Truncated)
unfolding reading code_word run_items after_code look_code bits_of_five
inside_zeros = refl

-- nine begin none
inside_bad : read_page 8 (text (codes "0000000000011000000000000")) ≡ Err (16, BadCode)
unfolding reading code_word run_items after_code look_code bits_of_five
inside_bad = refl

-- after a make-up code of 64 seven 0 bits begin no terminating code
after_makeup : read_page 128 (text (codes "110110000000")) ≡ Err (5, BadCode)
unfolding reading code_word run_items after_code look_code bits_of_five
after_makeup = refl

-- six do
after_makeup_cut : read_page 128 (text (codes "11011000000")) ≡ Err (5, Truncated)
unfolding reading code_word run_items after_code look_code bits_of_five
after_makeup_cut = refl

-- after a make-up code a second one
two_makeups : read_page 2432 (text (codes "1101111011")) ≡ Err (5, BadCode)
unfolding reading code_word run_items after_code look_code bits_of_five
two_makeups = refl

-- a make-up code fits, and its terminating code is too long
long_after_makeup : read_page 65 (text (codes "110110111000")) ≡ Err (5, RunTooLong)
unfolding reading code_word run_items after_code look_code bits_of_five
long_after_makeup = refl

-- a whole white row of 8, and then neither an EOL nor only 0 bits
row_after : read_page 8 (text (codes "1001100001")) ≡ Err (5, BadCode)
unfolding reading code_word run_items after_code look_code bits_of_five
row_after = refl

-- the same row, and only 0 bits: no EOL is needed
bare : read_page 8 (text (codes "10011000")) ≡ Ok ((White ∷ White ∷ White ∷ White ∷ White ∷ White ∷ White ∷ White ∷ []) ∷ [], 5)
unfolding reading code_word run_items after_code look_code bits_of_five
bare = refl

-- the same row, one EOL and only 0 bits
one_eol : read_page 8 (text (codes "10011000000000001000")) ≡ Ok (
  (White ∷ White ∷ White ∷ White ∷ White ∷ White ∷ White ∷ White ∷ []) ∷ [],
  17,
)
unfolding reading code_word run_items after_code look_code bits_of_five
one_eol = refl

-- runs of 0 before the row's end: white 0, black 2, white 0, black 6
zero_runs : read_row 8 (text (codes "0011010111001101010010")) ≡ Ok (Black ∷ Black ∷ Black ∷ Black ∷ Black ∷ Black ∷ Black ∷ Black ∷ [], 22)
unfolding row_reading code_word run_items after_code look_code
zero_runs = refl

-- ..##...., six EOLs and one more: 94 bits
good : read_page 8 (text (codes
    "0000000000010111111011000000000001000000000001000000000001000000000001000000000001000000000001000000000001")) ≡ Ok (
      (White ∷ White ∷
          Black ∷ Black ∷ White ∷ White ∷ White ∷ White ∷ []) ∷ [],
      94,
    )
unfolding reading code_word run_items after_code look_code bits_of_five
good = refl

-- and its code
written : page_words ((White ∷ White ∷ Black ∷ Black ∷ White ∷ White ∷ White ∷ White ∷ []) ∷ []) ≡ text (codes
    "0000000000010111111011000000000001000000000001000000000001000000000001000000000001000000000001")
unfolding code_word own_runs
written = refl

-- the code of a page of one white row of 1728: 101 bits, and their reading
white_page : page_words (replicate 1728 White ∷ []) ≡ text (codes
    "00000000000101001101100110101000000000001000000000001000000000001000000000001000000000001000000000001")
unfolding code_word own_runs
white_page = refl

-- the refused ones, in the grammar's words
pub refused_pages : AreRefusedPages
refused_pages = record {
  nothing = at 8 [] 0 NoRows (omega arith) (omega arith) nothing;
  zeros = at 8 (text (codes "00000000")) 0 NoRows (omega arith) (omega arith) zeros;
  eol_and_zeros = at 8 (text (codes "000000000001000000000000")) 12 NoRows (omega arith) (omega arith) none;
  two_eols = at 8 (text (codes "000000000001000000000001")) 12 NoRows (omega arith) (omega arith) two;
  no_code = at 8 (text (codes "000000000001000000001000")) 12 BadCode (omega arith) (omega arith) bad;
  too_long = at 8 (text (codes "000000000001101000000000")) 12 RunTooLong (omega arith) (omega arith) long;
  inside_a_row = at 8 (text (codes "0000000000011000")) 16 Truncated (omega arith) (omega arith) inside_row;
  seven_zeros = at 8 (text (codes "00000000000110000000000")) 16 Truncated (omega arith) (omega arith) inside_zeros;
  nine_zeros = at 8 (text (codes "0000000000011000000000000")) 16 BadCode (omega arith) (omega arith) inside_bad;
  seven_zeros_after_makeup = at 128 (text (codes "110110000000")) 5 BadCode (omega arith) (omega arith) after_makeup;
  six_zeros_after_makeup = at 128 (text (codes "11011000000")) 5 Truncated (omega arith) (omega arith) after_makeup_cut;
  makeup_after_makeup = at 2432 (text (codes "1101111011")) 5 BadCode (omega arith) (omega arith) two_makeups;
  rest_too_long = at 65 (text (codes "110110111000")) 5 RunTooLong (omega arith) (omega arith) long_after_makeup;
  no_eol = at 8 (text (codes "1001100001")) 5 BadCode (omega arith) (omega arith) row_after;
}
  where
    at : (width : ℕ) (x : List Bool) (place : ℕ) (kind : CodeFaultKind) → 1 ≤ width → width ≤ 2432 → read_page width x ≡ Err (place, kind)
        → IsRefusedPage width x place kind
    at width x place kind some most e = refused_page width x place kind (some, most) e
