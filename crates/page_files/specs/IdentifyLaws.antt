-- What `decode --each` does beside what `identify` says.
use Rattle.std.specs.Prelude.{ℕ, ◌≡◌, List, ◌++◌, Option, Some, None}
use Rattle.page_files.specs.Found.{FindsIn, IsAgreedBy, IsDamaged, best_of, found_by}
use Rattle.page_files.specs.Identified.{AreTwoDim, Identifies, format_of, page_lines, tried_line, tried_widths}
use Rattle.page_files.specs.declared.identify.Identity.{Identity}
use Rattle.page_files.specs.declared.identify.Said.{Said}
use Rattle.page_files.specs.declared.identify.Tried.{Tried}

-- law: the first line that `identify` writes of octets that begin as no known format is that of the way in which `decode --each` reads them
abbrev pub FirstLineIsBest : Type 0
FirstLineIsBest = (octets : List ℕ) (tried : List Tried) (one : Tried) → format_of octets ≡ None → best_of octets tried ≡ Some one
    → (rest : List ℕ) × (page_lines octets tried ≡ tried_line octets one ++ rest)

-- law: what `decode --each` finds octets to be follows from what `identify` says of them and from the ways that it tried
abbrev pub FindsWhatIsSaid : Type 0
FindsWhatIsSaid = (octets : List ℕ) (before after : Option (List ℕ)) (identity : Identity) (said : Identifies octets before after identity)
    (two : Said) (agreed damaged : Option Tried) → format_of octets ≡ None → AreTwoDim octets two.msb two.lsb
    → IsAgreedBy identity tried_widths octets agreed → IsDamaged (record { own = said.own; two = two }) octets said.tried agreed damaged
    → FindsIn tried_widths octets (found_by identity (best_of octets said.tried) damaged)
