-- A white row of a page in the one-dimensional code, as a number.
use Rattle.std.specs.Prelude.{ℕ, ◌≡◌, ◌≤◌, ◌++◌}
use Rattle.raster.specs.declared.row.Color.TheVariants.{White}
use Rattle.run_tables.specs.Codes.{run_words}
use Rattle.run_tables.specs.Numbers.{number_text}
use Rattle.page_code.specs.OneDimension.Pages.{eol_word}
use Rattle.page_code.specs.declared.one_dim.white_rows.WhiteRow.{WhiteRow}

-- the number writes an EOL without fill and the code words of a white row of this width (T.4, 4.1)
pub record IsWhiteRow (width : ℕ) (white : WhiteRow) : Type 0 where
  pub text : number_text white.bits white.number ≡ eol_word 11 ++ run_words White width
  pub few : white.bits ≤ 57
