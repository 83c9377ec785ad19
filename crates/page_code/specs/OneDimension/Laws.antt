-- Laws of pages in the one-dimensional code (ITU-T T.4, 4.1).
use Rattle.std.specs.Prelude.{ℕ, ◌≡◌, ◌<◌, ◌≤◌, ◌↔◌, Bool, List, ◌++◌, length, All, Ok, Err}
use Rattle.raster.specs.declared.row.Color.{Color}
use Rattle.raster.specs.Pixels.{IsWidth}
use Rattle.raster.specs.Pages.{max_rows}
use Rattle.run_tables.specs.declared.fault.CodeFaultKind.{CodeFaultKind}
use Rattle.run_tables.specs.Fronts.{IsFront, Nested}
use Rattle.run_tables.specs.Longest.{IsLongest}
use Rattle.page_code.specs.OneDimension.Pages.{ReadsAs, page_words}
use Rattle.page_code.specs.OneDimension.Fronts.{PageItem, item_word, Step, look, read_page}
use Rattle.page_code.specs.OneDimension.Fronts.PageState.{first}

-- a front of the bits: a beginning that is whole items of a page, each valid after the ones before it
abbrev pub IsPageFront : ℕ → List Bool → List PageItem → Type 0
IsPageFront width x items = IsFront item_word (Step width) first x items

-- no front of the bits is longer, and this kind of refusal is seen after it
abbrev pub IsLongestFront : ℕ → List Bool → ℕ → CodeFaultKind → Type 0
IsLongestFront width x place kind = IsLongest item_word (Step width) (look width) first x place kind

-- law: a page is read exactly if the bits read as it
abbrev pub ReadsExactly : Type 0
ReadsExactly = (width : ℕ) (x : List Bool) (page : List (List Color)) (used : ℕ) → IsWidth width
    → (read_page width x ≡ Ok (page, used)) ↔ ReadsAs width x page used

-- law: bits that are refused read as no page
abbrev pub RefusesNoPage : Type 0
RefusesNoPage = (width : ℕ) (x : List Bool) (place : ℕ) (kind : CodeFaultKind) (page : List (List Color)) (used : ℕ) → IsWidth width
    → read_page width x ≡ Err (place, kind) → ¬ ReadsAs width x page used

-- law: the place of a refusal is the length of the longest front, and its kind is what is seen in the bits after it
abbrev pub RefusesAtLongest : Type 0
RefusesAtLongest = (width : ℕ) (x : List Bool) (place : ℕ) (kind : CodeFaultKind) → read_page width x ≡ Err (place, kind)
    → IsLongestFront width x place kind

-- law: of two fronts of the same bits, one begins the other
abbrev pub OneFront : Type 0
OneFront = (width : ℕ) (x : List Bool) (items others : List PageItem) → IsPageFront width x items → IsPageFront width x others
    → Nested items others

-- law: the code of a T.4 page, followed by any bits, reads as the page with the code's length
abbrev pub ReadsCode : Type 0
ReadsCode = (width : ℕ) (page : List (List Color)) (rest : List Bool) → IsWidth width → 0 < length page → length page ≤ max_rows
    → All (λ row. length row ≡ width) page → read_page width (page_words page ++ rest) ≡ Ok (page, length (page_words page))
