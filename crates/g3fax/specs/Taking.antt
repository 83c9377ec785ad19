-- What a call answers that hands out the pages of an answerer.
use Rattle.std.specs.Prelude.{ℕ, ◌≡◌, ◌≢◌, ◌⊎◌, ◌++◌, ◌∷◌, [], true, List}
use Rattle.std.specs.declared.option.Option.{Option}
use Rattle.std.specs.declared.option.Option.TheVariants.{None}
use Rattle.raster.specs.Pages.{PagePixels}
use Rattle.stations.specs.Limiting.{LimitedFields}
use Rattle.terminals.specs.Hearing.{busy}
use Rattle.terminals.specs.Stopping.{with_pages_taken}
use Rattle.g3fax.specs.Answering.{AnsweringFields, with_handed}
use Rattle.g3fax.specs.Handles.{Fills, HasPage}
use Rattle.g3fax.specs.Hearing.{TakesInput}
use Rattle.g3fax.specs.Stations.{answerers}
use Rattle.g3fax.specs.Statuses.{ok, no_memory, bad_choice, nothing_there}
use Rattle.g3fax.specs.declared.handle.Kept.{Kept}

-- the pages that were stored and not handed out, the oldest first
abbrev pub pages_left : AnsweringFields → List PagePixels
pages_left answering = answering.waiting ++ answering.timed.terminal.speaking.station.station.pages

-- the oldest page was handed out; if none waited, all stored pages were taken out of the station for that
pub record HandsOutPage (old : AnsweringFields) (page : PagePixels) (new : AnsweringFields) : Type 0 where
  pub oldest : pages_left old ≡ page ∷ pages_left new
  pub framing : new.timed.terminal.framing ≡ old.timed.terminal.framing
  pub waited : old.waiting ≢ [] → new.timed ≡ old.timed
  pub taken : old.waiting ≡ [] → new.timed.terminal.speaking ≡ with_pages_taken old.timed.terminal.speaking
  pub rest : new.timed ≡ record old.timed { terminal = new.timed.terminal }
  pub tally : new.tally ≡ with_handed old.tally

-- The oldest page was handed out, and the answerer is busy until the program says otherwise: first its station has taken that it is.
pub record HoldsPage (old : AnsweringFields) (page : PagePixels) (new : AnsweringFields) : Type 0 where
  pub held : AnsweringFields
  pub busy : TakesInput LimitedFields answerers old.timed (busy true) held.timed ok
  pub rest : held ≡ record old { timed = held.timed }
  pub hands : HandsOutPage held page new

-- The oldest page that was stored and not handed out fills an empty handle. 106 only if there is none. By any status above 0 nothing
-- changes.
pub record NextPage (old new : AnsweringFields) (before after : Option Kept) (status : ℕ) : Type 0 where
  pub fills : Fills (HasPage (λ page. HandsOutPage old page new)) before status after
  pub kept : status ≢ ok → new ≡ old
  pub nothing : status ≡ nothing_there → pages_left old ≡ []
  pub only : before ≡ None → (status ≡ ok) ⊎ ((status ≡ nothing_there) ⊎ (status ≡ no_memory))

-- The oldest page that was stored and not handed out fills an empty handle, and the answerer is busy. 102 if the handle isn't empty, 104 if
-- the answerer stores more pages than one before it is busy, 106 only if there is no page. By any status above 0 nothing changes.
pub record HoldsNextPage (old new : AnsweringFields) (before after : Option Kept) (status : ℕ) : Type 0 where
  pub fills : Fills (HasPage (λ page. HoldsPage old page new)) before status after
  pub kept : status ≢ ok → new ≡ old
  pub many : before ≡ None → old.limit ≢ 1 → status ≡ bad_choice
  pub nothing : status ≡ nothing_there → pages_left old ≡ []
  pub only : before ≡ None → old.limit ≡ 1 → (status ≡ ok) ⊎ ((status ≡ nothing_there) ⊎ (status ≡ no_memory))
