-- Reading a T.6 page, step by step: what reading before a step gives is what reading after it gives, or the refusal there.
use Rattle.std.proofs.Common.{ℕ, ◌≡◌, ◌+◌, ◌<◌, Bool, true, false, List, length, refl}
use Rattle.std.proofs.Common.{arith, cond, nat_eq}
use Rattle.std.specs.Prelude.{Ok, Err}
use Rattle.std.proofs.lemmas.Bool.{ne_eqb, eqb-false}
use Rattle.raster.specs.declared.row.Color.{Color}
use Rattle.run_tables.specs.declared.fault.CodeFaultKind.{CodeFaultKind}
use Rattle.run_tables.specs.declared.fault.CodeFaultKind.TheVariants.{BadCode}
use Rattle.run_tables.specs.Fronts.Look.{stop, refuse}
use Rattle.run_tables.proofs.FrontWalks.{read_seen}
use Rattle.page_code.specs.TwoDimensions.Positions.{CodingLine}
use Rattle.page_code.specs.TwoDimensions.Fronts.{page_item_word, PageSoFar, PageState, row_added}
use Rattle.page_code.specs.TwoDimensions.Fronts.{mode_ended}
use Rattle.page_code.specs.TwoDimensions.Fronts.{page_look, reading}
use Rattle.page_code.specs.TwoDimensions.Fronts.PageState.{between, inside}

-- the page ends
pub reading_stop : (width : ℕ) (s : PageState) (place : ℕ) (x : List Bool) (rows : List (List Color)) (n : ℕ)
    → page_look width s x ≡ stop rows n → reading width s place x ≡ Ok (rows, place + n)
unfolding reading
reading_stop width s place x rows n e = read_seen page_item_word (page_look width) BadCode s place x (stop rows n) e

-- what is refused ends the reading
pub reading_refuse : (width : ℕ) (s : PageState) (place : ℕ) (x : List Bool) (kind : CodeFaultKind) → page_look width s x ≡ refuse kind
    → reading width s place x ≡ Err (place, kind)
unfolding reading
reading_refuse width s place x kind e = read_seen page_item_word (page_look width) BadCode s place x (refuse kind) e

-- a whole row is added to the page
pub mode_ended_whole : (width : ℕ) (page : PageSoFar) (line : CodingLine) → length line.pixels ≡ width
    → mode_ended width page line ≡ between (row_added page line.pixels)
mode_ended_whole width page line full = seen (nat_eq (length line.pixels) width) refl
  where
    seen : (b : Bool) → nat_eq (length line.pixels) width ≡ b
        → cond b (between (row_added page line.pixels)) (inside page line) ≡ between (row_added page line.pixels)
    seen true is = refl
    seen false is = absurd (eqb-false (length line.pixels) width is full)

-- else the row goes on
pub mode_ended_short : (width : ℕ) (page : PageSoFar) (line : CodingLine) → length line.pixels < width
    → mode_ended width page line ≡ inside page line
mode_ended_short width page line short = rw (ne_eqb (length line.pixels) width (λ e. omega arith)) refl
