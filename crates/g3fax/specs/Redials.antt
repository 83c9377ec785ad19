-- What calls answer that hand back the document of a caller, and that call again with the pages that weren't confirmed.
use Rattle.std.specs.Prelude.{ℕ, ◌≡◌, ◌≢◌, ◌<◌, ◌≤◌, ◌⊎◌, List, IfSome, drop, length}
use Rattle.std.specs.declared.option.Option.{Option}
use Rattle.std.specs.declared.option.Option.TheVariants.{None, Some}
use Rattle.raster.specs.Pages.{PagePixels}
use Rattle.stations.specs.CallerFields.{AreCallable, Represents}
use Rattle.stations.specs.CallerStep.{Caller, confirmed}
use Rattle.stations.specs.Stopping.{StoppableCallerFields, call_end}
use Rattle.terminals.specs.Timed.{TimedFields}
use Rattle.g3fax.specs.Beginning.{IsNewCaller, wish_of}
use Rattle.g3fax.specs.Documents.{IsMoved, pages_of}
use Rattle.g3fax.specs.Handles.{Fills, HasCaller, HasDocument, OfDocument, OfTerminal}
use Rattle.g3fax.specs.Statuses.{ok, no_memory, not_callable, bad_choice, full_handle, nothing_there, other_handle}
use Rattle.g3fax.specs.declared.beginning.G3Wish.{G3Wish}
use Rattle.g3fax.specs.declared.handle.Kept.{Kept}

-- the station of a caller's terminal
abbrev pub station_of : TimedFields StoppableCallerFields → StoppableCallerFields
station_of timed = timed.terminal.speaking.station

-- the call of a caller goes on
abbrev pub GoesOn : TimedFields StoppableCallerFields → Caller → Type 0
GoesOn timed t = call_end t.ending (station_of timed).cut ≡ None

-- The document of a caller fills an empty handle, as the caller was made with it, and how many of its first pages are confirmed is told. 106
-- exactly if the call goes on.
pub record HandsBack (timed : TimedFields StoppableCallerFields) (before after : Option Kept) (told status : ℕ) : Type 0 where
  pub fills : Fills (HasDocument (λ pages. pages ≡ Some (station_of timed).station.document)) before status after
  pub confirmed : status ≡ ok → (t : Caller) → Represents (station_of timed).station t → told ≡ confirmed t
  pub goes_on : before ≡ None → (t : Caller) → Represents (station_of timed).station t → GoesOn timed t → status ≡ nothing_there
  pub ended : before ≡ None → (t : Caller) → Represents (station_of timed).station t → (GoesOn timed t → ⊥) → status ≡ ok

-- The document of a caller's handle is handed back, and the caller leaves its handle. 100 if that is empty, 101 if it has no caller; then
-- 102 if the other one isn't empty; else 106 exactly if the call goes on, else 0: no memory is taken. By any status above 0 all stays.
pub record TakesDocument (old left before after : Option Kept) (was told status : ℕ) : Type 0 where
  pub answers : OfTerminal (λ timed. HandsBack timed before after told status) (λ answering. status ≡ other_handle) old status
  pub moved : IsMoved status old left
  pub kept : status ≢ ok → (after ≡ before) × (told ≡ was)

-- The status for a caller of the pages of a document from one on: 106 exactly if it has no such page, else 26 exactly if a call can't have the
-- width of one of them; else 0, or 9.
pub record AnswersFrom (first : ℕ) (pages : List PagePixels) (status : ℕ) : Type 0 where
  pub none : length pages ≤ first → status ≡ nothing_there
  pub wrong : first < length pages → ¬ AreCallable (drop first pages) → status ≡ not_callable
  pub only : first < length pages → AreCallable (drop first pages) → (status ≡ ok) ⊎ (status ≡ no_memory)

-- The pages of a handle's document from one on go to the terminal of a new caller, which fills an empty handle, and the document leaves its
-- own. 102 if the handle isn't empty; 104 if the number of the modems, the code or the frame's size is unknown; 100 and 101 for the document's
-- handle; else as `AnswersFrom` says. By any status above 0 both stay.
pub record MakesCallerFrom (first : ℕ) (wish : G3Wish) (old : Option Kept) (document left : Option Kept) (status : ℕ) (new : Option Kept) :
    Type 0 where
  pub done : status ≡ ok → (old ≡ None) × (left ≡ None) × HasDocument (λ pages. HasCaller (λ timed.
      IfSome (wish_of wish) (λ given. IsNewCaller (drop first (pages_of pages)) given timed)) new) document
  pub kept : status ≢ ok → (new ≡ old) × (left ≡ document)
  pub full : old ≢ None → status ≡ full_handle
  pub no_wish : old ≡ None → wish_of wish ≡ None → status ≡ bad_choice
  pub answers : old ≡ None → wish_of wish ≢ None → OfDocument (λ pages. AnswersFrom first (pages_of pages) status) document status
