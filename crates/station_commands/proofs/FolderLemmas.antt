-- A folder has as many pages as it counts.
use Rattle.std.proofs.Common.{arith, ◌≤◌, ◌+◌, ◌++◌, ◌∷◌, [], ℕ, List, length, Option, Some, None, ap, sym, subst}
use Rattle.std.proofs.lemmas.List.{length-append}
use Rattle.raster.specs.Pages.{PagePixels}
use Rattle.station_commands.specs.Folders.{CountsHeld, FolderIsStore}
use Rattle.station_commands.specs.declared.station.folder.HeldPage.{HeldPage}
use Rattle.station_commands.specs.declared.station.folder.Tally.{Tally}

-- one page more is one more
one_more : (before count : ℕ) (page : PagePixels) (pages : List PagePixels) → before ≤ length pages → count ≤ before + 1
    → count ≤ length (pages ++ page ∷ [])
one_more before count page pages has more = omega (arith, length-append pages (page ∷ []), has, more)

-- the page that was held counts as one at most
counts_held : (held : Option HeldPage) (old new : Tally) → CountsHeld held old new → new.pages ≤ old.pages + 1
counts_held None old new counts = omega (arith, ap (λ t. t.pages) counts)
counts_held (Some held) old new counts = omega (arith, ap (λ t. t.pages) counts)

pub folder_is_store : FolderIsStore
folder_is_store = record {
  stores = record {
    stored = λ old page new step pages has. one_more old.tally.pages new.tally.pages page pages has
        (omega (arith, step.0.pages));
    refused = λ old page new step pages has. subst (λ count. count ≤ length pages) (sym (ap (λ t. t.pages) step.tally)) has;
  };
  holds = record {
    handed = λ old page new step pages has. subst (λ count. count ≤ length pages) (sym step.0.pages) has;
    refused = λ old page new step pages has. subst (λ count. count ≤ length pages) (sym (ap (λ t. t.pages) step.tally)) has;
    counted = λ old page new step pages has.
        one_more old.tally.pages new.tally.pages page pages has (counts_held old.held old.tally new.tally step.0);
  };
}
