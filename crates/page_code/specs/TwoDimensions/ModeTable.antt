-- The table by which mode codes are read: an entry for each text of 7 bits (ITU-T T.6, 2.2.2, table 1).
use Rattle.std.specs.Prelude.{ℕ, List, length, map, Option, None, Some}
use Rattle.std.specs.List.{range_with_len}
use Rattle.run_tables.specs.Numbers.{number_text}
use Rattle.run_tables.specs.Texts.{pick}
use Rattle.page_code.specs.declared.t6.mode.ModeCode.{ModeCode}
use Rattle.page_code.specs.TwoDimensions.Fronts.{mode_word, mode_codes}

-- a mode code and the length of its code word
abbrev pub with_length : Option ModeCode → Option ModeCode × ℕ
with_length None = (None, 0)
with_length (Some code) = (Some code, length (mode_word code))

-- the mode code that begins each text of 7 bits, if one does
unfoldable pub mode_entries : List (Option ModeCode × ℕ)
mode_entries = map (λ next. with_length (pick mode_word mode_codes (number_text 7 next))) (range_with_len 0 128)
