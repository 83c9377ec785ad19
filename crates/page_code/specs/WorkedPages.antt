-- Pages that were coded by hand from the tables, as they are written and read: each end of a T.4 page (ITU-T T.4, 4.1.4), rows
-- without their end, each kind of mode of T.6 (2.2).
use Rattle.std.specs.Prelude.{◌≡◌, ◌++◌, ◌∷◌, [], List, Ok, Err, codes}
use Rattle.raster.specs.declared.row.Color.{Color}
use Rattle.raster.specs.declared.row.Color.TheVariants.{White, Black}
use Rattle.run_tables.specs.Codes.{text}
use Rattle.run_tables.specs.declared.fault.CodeFaultKind.TheVariants.{BadCode}
use Rattle.page_code.specs.declared.one_dim.open_row.OpenRow.TheVariants.{Zeros, Runs}
use Rattle.page_code.specs.OneDimension.OpenRows.{IsOpenRow}
use Rattle.page_code.specs.OneDimension.Pages.{page_words}
use Rattle.page_code.specs.OneDimension.Fronts.{read_page as read_one_dim}
use Rattle.page_code.specs.TwoDimensions.Code.{page_code}
use Rattle.page_code.specs.TwoDimensions.Fronts.{read_page as read_t6}

-- a row of eight white pixels, ........
abbrev pub blank : List Color
blank = White ∷ White ∷ White ∷ White ∷ White ∷ White ∷ White ∷ White ∷ []

-- a row with two black pixels, ..##....
abbrev pub stripe : List Color
stripe = White ∷ White ∷ Black ∷ Black ∷ White ∷ White ∷ White ∷ White ∷ []

-- a row with them one pixel further right, ...##...
abbrev pub stripe_right : List Color
stripe_right = White ∷ White ∷ White ∷ Black ∷ Black ∷ White ∷ White ∷ White ∷ []

-- T.4 pages of one white row of 8 pixels, 10011, coded by hand, with each end of a page
pub record AreOneDimPages : Type 0 where
  -- no EOL, and nothing or only 0 bits follow
  pub bare : read_one_dim 8 (text (codes "10011")) ≡ Ok (blank ∷ [], 5)
  pub zeros : read_one_dim 8 (text (codes "10011000")) ≡ Ok (blank ∷ [], 5)
  -- one EOL, and only 0 bits follow; with fill; an EOL before the row
  pub one_eol : read_one_dim 8 (text (codes "10011000000000001000")) ≡ Ok (blank ∷ [], 17)
  pub filled_eol : read_one_dim 8 (text (codes "1001100000000000001000")) ≡ Ok (blank ∷ [], 19)
  pub lead : read_one_dim 8 (text (codes "00000000000110011")) ≡ Ok (blank ∷ [], 17)
  -- ten 0 bits and a 1 are no EOL
  pub short_eol : read_one_dim 8 (text (codes "1001100000000001000")) ≡ Err (5, BadCode)
  -- two EOLs, and any bits follow; six, and a seventh isn't of the page
  pub two_eols : read_one_dim 8 (text (codes "10011" ++ codes "000000000001000000000001" ++ codes "1")) ≡ Ok (blank ∷ [], 29)
  pub seven_eols : read_one_dim 8 (text (codes "10011" ++ codes "000000000001000000000001000000000001" ++
      codes "000000000001000000000001000000000001" ++ codes "000000000001")) ≡ Ok (blank ∷ [], 77)
  -- EOL, white 2, black 2, white 4, and six EOLs
  pub written : page_words (stripe ∷ []) ≡ text (codes "000000000001" ++ codes "0111" ++ codes "11" ++ codes "1011" ++
      codes "000000000001000000000001000000000001" ++ codes "000000000001000000000001000000000001")

-- what was passed of T.4 rows of 8 pixels that have no end yet, coded by hand
pub record AreOpenRows : Type 0 where
  -- an EOL, white 0 and black 0: the next run is white, and all pixels are left
  pub no_pixels : IsOpenRow 8 (text (codes "000000000001" ++ codes "00110101" ++ codes "0000110111" ++ codes "0011")) [] 0
      (Runs (record { at = 30; color = White; left = 8 }))
  -- no EOL, and white 2: the next run is black, of 6 pixels at most
  pub white : IsOpenRow 8 (text (codes "0111" ++ codes "0")) [] 0 (Runs (record { at = 4; color = Black; left = 6 }))
  -- fill
  pub fill : IsOpenRow 8 (text (codes "0000000000000")) [] 0 (Zeros 13)

-- T.6 pages of rows of 8 pixels, coded by hand: by vertical modes, pass mode and horizontal mode
pub record AreT6Pages : Type 0 where
  -- a white row: V0; horizontal mode, white 2 and black 2, then V0
  pub blank_written : page_code 8 (blank ∷ []) ≡ text (codes "1" ++ codes "000000000001000000000001")
  pub stripe_written : page_code 8 (stripe ∷ []) ≡ text (codes "001" ++ codes "0111" ++ codes "11" ++ codes "1" ++
      codes "000000000001000000000001")
  -- the stripe again after itself: three times V0; a white row after it: pass mode, V0
  pub again_written : page_code 8 (stripe ∷ stripe ∷ blank ∷ []) ≡ text (codes "0010111111" ++ codes "111" ++ codes "00011" ++
      codes "000000000001000000000001")
  -- the stripe one pixel to the right: VR1, VR1, V0; and back: VL1, VL1, V0
  pub right_written : page_code 8 (stripe ∷ stripe_right ∷ stripe ∷ []) ≡ text (codes "0010111111" ++ codes "0110111" ++
      codes "0100101" ++ codes "000000000001000000000001")
  -- what follows EOFB isn't of the page
  pub right_read : read_t6 8 (text (codes "0010111111" ++ codes "0110111" ++ codes "0100101" ++ codes "000000000001000000000001" ++
      codes "1011")) ≡ Ok (stripe ∷ stripe_right ∷ stripe ∷ [], 48)
