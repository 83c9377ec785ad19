-- Worked rows, pages and refusals of the two-dimensional code, by computing.
use Rattle.std.proofs.Common.{ℕ, ◌≡◌, ◌≤◌, Bool, List, [], ◌∷◌, ◌++◌, replicate, refl, arith}
use Rattle.std.specs.Prelude.{Ok, Err, codes}
use Rattle.raster.specs.declared.row.Color.{Color}
use Rattle.raster.specs.declared.row.Color.TheVariants.{White, Black}
use Rattle.run_tables.specs.declared.fault.CodeFaultKind.{CodeFaultKind}
use Rattle.run_tables.specs.declared.fault.CodeFaultKind.TheVariants.{NoRows, BadCode, Truncated, Backwards, PastEnd, EmptyHorizontal}
use Rattle.run_tables.specs.declared.fault.CodeFaultKind.TheVariants.{Extension, MissingEofb}
use Rattle.run_tables.specs.Codes.{text, code_word}
use Rattle.run_tables.specs.RowFronts.{run_items}
use Rattle.page_code.specs.TwoDimensions.Positions.{change_from, b1_of, white_line}
use Rattle.page_code.specs.TwoDimensions.Code.{row_code, page_code}
use Rattle.page_code.specs.TwoDimensions.Kinds.{IsRefusedPage}
use Rattle.page_code.specs.TwoDimensions.KindLaws.{AreRefusedPages}
use Rattle.page_code.proofs.TwoDimensions.KindLaws.{refuses_pages_exactly}
use Rattle.page_code.specs.TwoDimensions.Fronts.{reading, read_page, after_mode, after_run, look_mode, look_run}

-- Rows and pages

-- ..##....
stripe : List Color
stripe = White ∷ White ∷ Black ∷ Black ∷ White ∷ White ∷ White ∷ White ∷ []

stripe_code : row_code (white_line 8) stripe ≡ text (codes "0010111111")
unfolding code_word b1_of change_from stripe
stripe_code = refl

stripe_again : row_code stripe stripe ≡ text (codes "111")
unfolding code_word b1_of change_from stripe
stripe_again = refl

white_after_stripe : row_code stripe (white_line 8) ≡ text (codes "00011")
unfolding code_word b1_of change_from stripe
white_after_stripe = refl

-- ..######, and a white row after it: b2 isn't to the left of a1
white_after_black : row_code (White ∷ White ∷ replicate 6 Black) (white_line 8) ≡ text (codes "001100110000110111")
unfolding code_word b1_of change_from
white_after_black = refl

-- .....###
black_end : row_code (white_line 8) (replicate 5 White ++ replicate 3 Black) ≡ text (codes "00000101")
unfolding code_word b1_of change_from
black_end = refl

three_code : page_code 8 (stripe ∷ stripe ∷ white_line 8 ∷ []) ≡ text (codes "001011111111100011000000000001000000000001")
unfolding page_code code_word b1_of change_from stripe
three_code = refl

three_read : read_page 8 (text (codes "001011111111100011000000000001000000000001000000")) ≡ Ok (stripe ∷ stripe ∷ white_line 8 ∷ [], 42)
unfolding reading code_word run_items b1_of change_from after_mode after_run look_mode look_run stripe
three_read = refl

-- what follows EOFB is ignored
followed : read_page 8 (text (codes "1000000000001000000000001000000011111111")) ≡ Ok (white_line 8 ∷ [], 25)
unfolding reading code_word run_items b1_of change_from after_mode after_run look_mode look_run
followed = refl

wide_code : page_code 1728 (white_line 1728 ∷ []) ≡ text (codes "1000000000001000000000001")
unfolding page_code code_word b1_of change_from
wide_code = refl

wide_read : read_page 1728 (text (codes "10000000000010000000000010000000")) ≡ Ok (white_line 1728 ∷ [], 25)
unfolding reading code_word run_items b1_of change_from after_mode after_run look_mode look_run
wide_read = refl

-- Refusals

nothing : read_page 8 [] ≡ Err (0, MissingEofb)
unfolding reading code_word run_items b1_of change_from after_mode after_run look_mode look_run
nothing = refl

extension_first : read_page 8 (text (codes "00000010")) ≡ Err (0, Extension)
unfolding reading code_word run_items b1_of change_from after_mode after_run look_mode look_run
extension_first = refl

extension_alone : read_page 8 (text (codes "0000001")) ≡ Err (0, Extension)
unfolding reading code_word run_items b1_of change_from after_mode after_run look_mode look_run
extension_alone = refl

no_eofb : read_page 8 (text (codes "10000000")) ≡ Err (1, MissingEofb)
unfolding reading code_word run_items b1_of change_from after_mode after_run look_mode look_run
no_eofb = refl

half_eofb : read_page 8 (text (codes "100000000000100000000000")) ≡ Err (1, Truncated)
unfolding reading code_word run_items b1_of change_from after_mode after_run look_mode look_run
half_eofb = refl

eofb_with_other_bits : read_page 8 (text (codes "100000000000100000001")) ≡ Err (1, BadCode)
unfolding reading code_word run_items b1_of change_from after_mode after_run look_mode look_run
eofb_with_other_bits = refl

cut_run : read_page 8 (text (codes "00100000")) ≡ Err (3, Truncated)
unfolding reading code_word run_items b1_of change_from after_mode after_run look_mode look_run
cut_run = refl

past_end : read_page 8 (text (codes "01100000")) ≡ Err (0, PastEnd)
unfolding reading code_word run_items b1_of change_from after_mode after_run look_mode look_run
past_end = refl

backwards : read_page 8 (text (codes "001001101010101010000000")) ≡ Err (15, Backwards)
unfolding reading code_word run_items b1_of change_from after_mode after_run look_mode look_run
backwards = refl

-- after .####### b1 is 1, so VL3 doesn't move to the right of the line's beginning
backwards_first : read_page 8 (text (codes "001000111000110000010000")) ≡ Err (14, Backwards)
unfolding reading code_word run_items b1_of change_from after_mode after_run look_mode look_run
backwards_first = refl

empty_horizontal : read_page 8 (text (codes "001001101010000110111000")) ≡ Err (11, EmptyHorizontal)
unfolding reading code_word run_items b1_of change_from after_mode after_run look_mode look_run
empty_horizontal = refl

no_rows : read_page 8 (text (codes "000000000001000000000001")) ≡ Err (0, NoRows)
unfolding reading code_word run_items b1_of change_from after_mode after_run look_mode look_run
no_rows = refl

-- a make-up code that passes the width, whatever follows it
long_run : read_page 8 (text (codes "00111011")) ≡ Err (3, PastEnd)
unfolding reading code_word run_items b1_of change_from after_mode after_run look_mode look_run
long_run = refl

-- after a make-up code only a terminating code may come
two_makeups : read_page 100 (text (codes "0011101111011")) ≡ Err (8, BadCode)
unfolding reading code_word run_items b1_of change_from after_mode after_run look_mode look_run
two_makeups = refl

-- inside a row, after the ten bits of horizontal mode with runs of 2 and 2: no mode begins with 000000
zeros_inside : read_page 8 (text (codes "0010111110000000")) ≡ Err (9, BadCode)
unfolding reading code_word run_items b1_of change_from after_mode after_run look_mode look_run
zeros_inside = refl

six_zeros_inside : read_page 8 (text (codes "001011111000000")) ≡ Err (9, BadCode)
unfolding reading code_word run_items b1_of change_from after_mode after_run look_mode look_run
six_zeros_inside = refl

cut_inside : read_page 8 (text (codes "001011111000001")) ≡ Err (9, Truncated)
unfolding reading code_word run_items b1_of change_from after_mode after_run look_mode look_run
cut_inside = refl

end_inside : read_page 8 (text (codes "001011111")) ≡ Err (9, Truncated)
unfolding reading code_word run_items b1_of change_from after_mode after_run look_mode look_run
end_inside = refl

extension_inside : read_page 8 (text (codes "0010111110000001")) ≡ Err (9, Extension)
unfolding reading code_word run_items b1_of change_from after_mode after_run look_mode look_run
extension_inside = refl

eofb_inside : read_page 8 (text (codes "001011111000000000001000000000001")) ≡ Err (9, BadCode)
unfolding reading code_word run_items b1_of change_from after_mode after_run look_mode look_run
eofb_inside = refl

cut_first : read_page 8 (text (codes "000001")) ≡ Err (0, Truncated)
unfolding reading code_word run_items b1_of change_from after_mode after_run look_mode look_run
cut_first = refl

zeros_first : read_page 8 (text (codes "00000000")) ≡ Err (0, MissingEofb)
unfolding reading code_word run_items b1_of change_from after_mode after_run look_mode look_run
zeros_first = refl

-- the same over the relation that says why
pub refused_pages : AreRefusedPages
refused_pages = record {
  nothing = at 8 [] 0 MissingEofb (omega arith) (omega arith) nothing;
  extension_first = at 8 (text (codes "00000010")) 0 Extension (omega arith) (omega arith) extension_first;
  extension_alone = at 8 (text (codes "0000001")) 0 Extension (omega arith) (omega arith) extension_alone;
  no_eofb = at 8 (text (codes "10000000")) 1 MissingEofb (omega arith) (omega arith) no_eofb;
  half_eofb = at 8 (text (codes "100000000000100000000000")) 1 Truncated (omega arith) (omega arith) half_eofb;
  eofb_with_other_bits = at 8 (text (codes "100000000000100000001")) 1 BadCode (omega arith) (omega arith) eofb_with_other_bits;
  cut_run = at 8 (text (codes "00100000")) 3 Truncated (omega arith) (omega arith) cut_run;
  past_end = at 8 (text (codes "01100000")) 0 PastEnd (omega arith) (omega arith) past_end;
  backwards = at 8 (text (codes "001001101010101010000000")) 15 Backwards (omega arith) (omega arith) backwards;
  backwards_first = at 8 (text (codes "001000111000110000010000")) 14 Backwards (omega arith) (omega arith) backwards_first;
  empty_horizontal = at 8 (text (codes "001001101010000110111000")) 11 EmptyHorizontal (omega arith) (omega arith) empty_horizontal;
  no_rows = at 8 (text (codes "000000000001000000000001")) 0 NoRows (omega arith) (omega arith) no_rows;
  long_run = at 8 (text (codes "00111011")) 3 PastEnd (omega arith) (omega arith) long_run;
  two_makeups = at 100 (text (codes "0011101111011")) 8 BadCode (omega arith) (omega arith) two_makeups;
  zeros_inside = at 8 (text (codes "0010111110000000")) 9 BadCode (omega arith) (omega arith) zeros_inside;
  six_zeros_inside = at 8 (text (codes "001011111000000")) 9 BadCode (omega arith) (omega arith) six_zeros_inside;
  cut_inside = at 8 (text (codes "001011111000001")) 9 Truncated (omega arith) (omega arith) cut_inside;
  end_inside = at 8 (text (codes "001011111")) 9 Truncated (omega arith) (omega arith) end_inside;
  extension_inside = at 8 (text (codes "0010111110000001")) 9 Extension (omega arith) (omega arith) extension_inside;
  eofb_inside = at 8 (text (codes "001011111000000000001000000000001")) 9 BadCode (omega arith) (omega arith) eofb_inside;
  cut_first = at 8 (text (codes "000001")) 0 Truncated (omega arith) (omega arith) cut_first;
  zeros_first = at 8 (text (codes "00000000")) 0 MissingEofb (omega arith) (omega arith) zeros_first;
}
  where
    at : (width : ℕ) (x : List Bool) (place : ℕ) (kind : CodeFaultKind) → 1 ≤ width → width ≤ 2432
        → read_page width x ≡ Err (place, kind) → IsRefusedPage width x place kind
    at width x place kind some most e = (refuses_pages_exactly.named width x place kind (some, most)).0 e
