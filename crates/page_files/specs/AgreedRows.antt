-- Where lines begin by the 0 bits before each 1, and on what they agree, by numbers.
use Rattle.std.specs.Prelude.{◌≡◌, [], ◌∷◌, Some, None}
use Rattle.page_files.specs.AgreedWidths.{agree, line_after, usual_of}

-- The law: after a row of five bits and an EOL of twelve the next line begins at bit 17; fill belongs to the EOL; ten 0 bits and a 1 are none.
-- Lines agree only if both say a width, the same one; and a width that isn't listed counts as none.
pub record LinesByGaps : Type 0 where
  pub first : line_after 0 (4 ∷ 11 ∷ 2 ∷ 11 ∷ []) ≡ Some 17
  pub later : line_after 17 (2 ∷ 11 ∷ []) ≡ Some 32
  pub fill : line_after 0 (4 ∷ 15 ∷ 11 ∷ []) ≡ Some 21
  pub short : line_after 0 (10 ∷ 11 ∷ []) ≡ Some 23
  pub none : line_after 0 (4 ∷ 10 ∷ []) ≡ None
  pub both : agree (Some 1728) (Some 1728) ≡ Some 1728
  pub other : agree (Some 1728) (Some 2048) ≡ None
  pub one : agree None (Some 1728) ≡ None
  pub no_width : agree None None ≡ None
  pub usual : usual_of (Some 2048) (1728 ∷ 2048 ∷ []) ≡ Some 2048
  pub unusual : usual_of (Some 1729) (1728 ∷ 2048 ∷ []) ≡ None
