-- What is in the files of `faxtool station --answer --hold`: each file that was handed over has the page that the answerer had then, and has
-- it until a line says that the file is kept, so that this page counts.
use Rattle.std.specs.Prelude.{ℕ, ◌≡◌, ◌++◌, ◌∷◌, [], List, Option, Some, None}
use Rattle.joined_terminals.specs.Driven.{Driven}
use Rattle.joined_terminals.specs.HeldPages.{HasPage}
use Rattle.raster.specs.Pages.{PagePixels}
use Rattle.station_commands.specs.Folders.{CountsHeld, HandsPage}
use Rattle.station_commands.specs.declared.station.folder.CallLimits.{CallLimits}
use Rattle.station_commands.specs.declared.station.folder.Folder.{Folder}
use Rattle.station_commands.specs.declared.station.folder.HeldPage.{HeldPage}
use Rattle.station_commands.specs.declared.station.folder.Tally.{Tally}

-- a page was handed over, in a file whose name was said, and then counted, since a line said that this file is kept
pub record KeptPage (limits : CallLimits) (old : Tally) (page : PagePixels) (new : Tally) : Type 0 where
  pub mid : Tally
  pub held : Option HeldPage
  pub told : List ℕ
  pub hands : HandsPage limits old page mid held told
  pub counts : CountsHeld held mid new

-- pages were kept between two tallies, in order; the numbers of their files grow, so each has its own
abbrev pub KeptBetween : CallLimits → Tally → List PagePixels → Tally → Type 0
KeptBetween limits old [] new = new ≡ old
KeptBetween limits old (page ∷ pages) new = (mid : Tally) × KeptPage limits old page mid × KeptBetween limits mid pages new

-- since a tally no page was handed over, and none is held; or one was, which is held, and the answerer has it, and no other
abbrev pub StandsBy : Option HeldPage → CallLimits → Tally → Tally → Driven → Type 0
StandsBy None limits since now d = now ≡ since
StandsBy (Some held) limits since now d =
    (page : PagePixels) × (told : List ℕ) × HandsPage limits since page now (Some held) told × HasPage page d

-- What happens to the pages of a folder that stands so: some are kept, which the store has then, and the folder stands so again.
pub record KeepsOn (since : Tally) (old : Driven) (folder : Folder) (new : Driven) (kept_in : Folder) : Type 0 where
  pub pages : List PagePixels
  pub then : Tally
  pub kept : KeptBetween folder.limits since pages then
  pub added : new.stored ≡ old.stored ++ pages
  pub stands : StandsBy kept_in.held kept_in.limits then kept_in.tally new
