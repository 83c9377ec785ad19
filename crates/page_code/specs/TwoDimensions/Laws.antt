-- Laws of the two-dimensional code (ITU-T T.6, 2.2).
use Rattle.std.specs.Prelude.{ℕ, ◌≡◌, ◌<◌, ◌≤◌, ◌↔◌, Bool, true, List, ◌++◌, length, Ok, Err}
use Rattle.std.specs.List.{AllByRecursion}
use Rattle.raster.specs.declared.row.Color.{Color}
use Rattle.raster.specs.Pixels.{IsWidth}
use Rattle.raster.specs.Changes.{IsNextChange}
use Rattle.raster.specs.Pages.{max_rows}
use Rattle.run_tables.specs.declared.fault.CodeFaultKind.{CodeFaultKind}
use Rattle.run_tables.specs.Fronts.{IsFront, Nested}
use Rattle.run_tables.specs.Longest.{IsLongest}
use Rattle.page_code.specs.declared.t6.mode.ModeCode.TheVariants.{Pass}
use Rattle.page_code.specs.TwoDimensions.Positions.{CodingLine, IsB1, IsB2, filled_to, change_from, b1_of, b2_of}
use Rattle.page_code.specs.TwoDimensions.Modes.{ReadsAsPage}
use Rattle.page_code.specs.TwoDimensions.Code.{page_code}
use Rattle.page_code.specs.TwoDimensions.Fronts.{PageSoFar, PageItem, page_item_word, PageStep, page_look, page_begin, after_mode}
use Rattle.page_code.specs.TwoDimensions.Fronts.{mode_ended, read_page}

-- a front of the bits: a beginning that is whole items of a page, each valid after the ones before it
abbrev pub IsPageFront : ℕ → List Bool → List PageItem → Type 0
IsPageFront width x items = IsFront page_item_word (PageStep width) (page_begin width) x items

-- no front of the bits is longer, and this kind of refusal is seen after it
abbrev pub IsLongestFront : ℕ → List Bool → ℕ → CodeFaultKind → Type 0
IsLongestFront width x place kind = IsLongest page_item_word (PageStep width) (page_look width) (page_begin width) x place kind

-- law: the search finds exactly the changing elements b1, b2 and the next one of a row
abbrev pub FindsPositions : Type 0
FindsPositions =
    ((reference : List Color) (line : CodingLine) (b1 : ℕ) → IsB1 reference line b1 ↔ (b1 ≡ b1_of reference line)) ×
    ((reference : List Color) (line : CodingLine) (b1 b2 : ℕ) → IsB1 reference line b1
    → IsB2 reference b1 b2 ↔ (b2 ≡ b2_of reference line)) ×
    ((row : List Color) (from place : ℕ) → IsNextChange row from place ↔ (place ≡ change_from row from))

-- law: pass mode is never refused: on a line that isn't whole it puts a0 under b2, which is to the right of a0 and not past the width
abbrev pub PassLeadsOn : Type 0
PassLeadsOn = (width : ℕ) (page : PageSoFar) (line : CodingLine) → length page.reference ≡ width → length line.pixels < width
    → after_mode width page line Pass ≡ Ok (mode_ended width page (record {
      pixels = filled_to line (b2_of page.reference line);
      begun = true;
      color = line.color;
    }))

-- law: a page is read exactly if the bits read as it
abbrev pub ReadsExactly : Type 0
ReadsExactly = (width : ℕ) (x : List Bool) (rows : List (List Color)) (used : ℕ) → IsWidth width
    → (read_page width x ≡ Ok (rows, used)) ↔ ReadsAsPage width x rows used

-- law: bits that are refused read as no page
abbrev pub RefusesNoPage : Type 0
RefusesNoPage = (width : ℕ) (x : List Bool) (place : ℕ) (kind : CodeFaultKind) (rows : List (List Color)) (used : ℕ) → IsWidth width
    → read_page width x ≡ Err (place, kind) → ¬ ReadsAsPage width x rows used

-- law: the place of a refusal is the length of the longest front, and its kind is what is seen in the bits after it
abbrev pub RefusesAtLongest : Type 0
RefusesAtLongest = (width : ℕ) (x : List Bool) (place : ℕ) (kind : CodeFaultKind) → read_page width x ≡ Err (place, kind)
    → IsLongestFront width x place kind

-- law: of two fronts of the same bits, one begins the other
abbrev pub OneFront : Type 0
OneFront = (width : ℕ) (x : List Bool) (items others : List PageItem) → IsPageFront width x items → IsPageFront width x others
    → Nested items others

-- law: the code of a T.6 page, followed by any bits, reads as the page with the code's length
abbrev pub RoundTrip : Type 0
RoundTrip =
    (width : ℕ) (rows : List (List Color)) (rest : List Bool) → IsWidth width → 0 < length rows → length rows ≤ max_rows
    → AllByRecursion (λ row. length row ≡ width) rows →
    read_page width (page_code width rows ++ rest) ≡ Ok (rows, length (page_code width rows))
