-- Answers that come too late, by the line that came earliest for its time.
use Rattle.std.specs.Prelude.{ℕ, ◌≡◌, Bool, false, IfSome, Option, Some, None, ◌+◌, nat_lt, if◌then◌else◌}
use Rattle.station_commands.specs.declared.station.lateness.Met.{Met}

-- of a line and one that came before, the one that came earlier for its time
abbrev pub earlier : Option Met → Met → Met
earlier None met = met
earlier (Some before) met = if nat_lt (met.clock + before.at) (before.clock + met.at) then met else before

-- a line came more than so many milliseconds later for its time than the first one did
abbrev pub is_behind : Met → Met → ℕ → Bool
is_behind met first most = nat_lt (first.clock + met.at + most) (met.clock + first.at)

-- when a line of this time was read, if the clock can be
abbrev pub IsMet : ℕ → Option Met → Type 0
IsMet at met = IfSome met (λ (line : Met). line.at ≡ at)

-- the line that came earliest for its time, once another one was read
abbrev pub first_after : Option Met → Option Met → Option Met
first_after first None = first
first_after first (Some met) = Some (earlier first met)

-- whether the answer to a line comes too late: more than so many milliseconds, where that is limited
abbrev pub is_late : Option ℕ → Option Met → Option Met → Bool
is_late (Some most) (Some first) (Some met) = is_behind met first most
is_late (Some most) (Some first) None = false
is_late (Some most) None met = false
is_late None first met = false
