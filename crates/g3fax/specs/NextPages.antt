-- Where the next page of a file begins.
use Rattle.std.specs.Prelude.{ℕ, ◌≡◌, ◌-◌, ◌/◌, ◌^◌, List, drop, min, take}
use Rattle.std.specs.declared.option.Option.{Option}
use Rattle.std.specs.declared.option.Option.TheVariants.{None, Some}
use Rattle.raster.specs.declared.coding.Coding.{Coding}
use Rattle.raster.specs.declared.packed.Order.{Order}
use Rattle.page_files.specs.LaterPages.{IsFrom, IsLaterIn}
use Rattle.g3fax.specs.Statuses.{ok, bad_choice, nothing_there}

-- The bit at which a page begins is told, and in its octet the bits before it are 0; the octets before that one stay. If no page is there,
-- the status is 106, and nothing changes.
abbrev pub TellsBegin : Order → Option ℕ → List ℕ → List ℕ → ℕ → ℕ → ℕ → Type 0
TellsBegin order (Some start) old new before status next = (status ≡ ok) × (next ≡ min start (2 ^ 64 - 1))
    × (take (start / 8) new ≡ take (start / 8) old) × IsFrom order start old (drop (start / 8) new)
TellsBegin order None old new before status next = (status ≡ nothing_there) × (new ≡ old) × (next ≡ before)

-- What is told of the page that follows one with the first `used` bits of the octets: where it begins, or that none does. 104 exactly if
-- the number of the code or of the order is unknown, and nothing changes.
abbrev pub TellsNext : Option Coding → Option Order → ℕ → List ℕ → List ℕ → ℕ → ℕ → ℕ → Type 0
TellsNext (Some coding) (Some order) used old new before status next = (start : Option ℕ) × IsLaterIn coding order old used start
    × TellsBegin order start old new before status next
TellsNext (Some coding) None used old new before status next = (status ≡ bad_choice) × (new ≡ old) × (next ≡ before)
TellsNext None order used old new before status next = (status ≡ bad_choice) × (new ≡ old) × (next ≡ before)
