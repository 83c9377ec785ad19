-- The marks that end a page's code, by the 0 bits before each 1: an EOL is 000000000001 (ITU-T T.4, 4.1.2), RTC six of them (4.1.4), EOFB two
-- (ITU-T T.6, 2.4.1.1).
use Rattle.std.specs.Prelude.{ℕ, ◌≡◌, ◌++◌, List, [], ◌∷◌, Some, None, replicate}
use Rattle.page_code.specs.declared.Coding.{Coding}
use Rattle.page_code.specs.declared.Coding.TheVariants.{OneDim, T6}
use Rattle.page_files.specs.Marks.{mark_end}

-- the mark of a page with these gaps ends at this bit
abbrev IsMarked : Coding → List ℕ → ℕ → Type 0
IsMarked coding gaps end = mark_end coding 0 gaps ≡ Some end

-- no mark of it is found
abbrev HasNone : Coding → List ℕ → Type 0
HasNone coding gaps = mark_end coding 0 gaps ≡ None

-- so many EOLs without fill
abbrev eols : ℕ → List ℕ
eols count = replicate count 11

-- The law: a row of five bits, an EOL, a row of three bits, and RTC end after 5 + 12 + 3 + 72 bits; two EOLs, or five, aren't RTC, and hide a later
-- one. A row of five bits and EOFB end after 5 + 24 bits; one EOL isn't EOFB, and hides a later one.
pub record MarksByGaps : Type 0 where
  pub rtc : IsMarked OneDim (4 ∷ 11 ∷ 2 ∷ eols 6) 92
  pub fill : IsMarked OneDim (4 ∷ 15 ∷ 11 ∷ 11 ∷ 11 ∷ 11 ∷ 11 ∷ []) 81
  pub two : HasNone OneDim (4 ∷ 11 ∷ 11 ∷ 2 ∷ eols 6)
  pub five : HasNone OneDim (eols 5 ++ (2 ∷ eols 6))
  pub short : HasNone OneDim (4 ∷ 11 ∷ 11 ∷ 10 ∷ eols 3)
  pub eofb : IsMarked T6 (4 ∷ eols 2) 29
  pub one : HasNone T6 (4 ∷ 11 ∷ 2 ∷ eols 2)
  pub none : HasNone T6 (4 ∷ 10 ∷ 10 ∷ [])
