-- The terminals of answerers in handles.
use Rattle.std.specs.Prelude.{ℕ, ◌+◌, ◌-◌, ◌^◌, Bool, true, false, List, length, min, nat_le}
use Rattle.raster.specs.Pages.{PagePixels}
use Rattle.stations.specs.Limiting.{LimitedFields}
use Rattle.terminals.specs.Timed.{TimedFields}
use Rattle.g3fax.specs.declared.answering.Tally.{Tally}

-- the terminal of an answerer, the pages that were taken out of it and not handed out yet, the oldest first, how many pages it stores before it
-- is busy, and how many were handed out and confirmed
pub record AnsweringFields : Type 0 where
  pub timed : TimedFields LimitedFields
  pub waiting : List PagePixels
  pub limit : ℕ
  pub tally : Tally

-- no page yet
abbrev pub no_tally : Tally
no_tally = record { handed = 0; confirmed = 0 }

-- one more page was handed out
abbrev pub with_handed : Tally → Tally
with_handed tally = record tally { handed = min (tally.handed + 1) (2 ^ 64 - 1) }

-- how many pages of an answerer are stored and not handed out
abbrev pub count_left : AnsweringFields → ℕ
count_left a = length a.waiting + length a.timed.terminal.speaking.station.station.pages

-- how many pages an answerer has stored so far: those that were handed out, and those that are left
abbrev pub stored_so_far : AnsweringFields → ℕ
stored_so_far a = a.tally.handed + count_left a

-- each page that an answerer has stored was confirmed
abbrev pub all_confirmed : AnsweringFields → Bool
all_confirmed a = nat_le (stored_so_far a) a.tally.confirmed

-- MCF goes out, which confirms all pages that were stored so far
abbrev pub with_confirmed : Bool → AnsweringFields → Tally
with_confirmed false a = a.tally
with_confirmed true a = record a.tally { confirmed = min (stored_so_far a) (2 ^ 64 - 1) }
