-- What calls tell of what a terminal and the other station have agreed on.
use Rattle.std.specs.Prelude.{ℕ, ◌≡◌}
use Rattle.std.specs.declared.option.Option.{Option}
use Rattle.std.specs.declared.option.Option.TheVariants.{None, Some}
use Rattle.signals.specs.Signals.{dcs, dis}
use Rattle.signals.specs.declared.params.Caps.{Caps}
use Rattle.signals.specs.declared.params.Params.{Params}
use Rattle.g3fax.specs.Signals.{params_told, told}
use Rattle.g3fax.specs.Statuses.{ok, nothing_there}
use Rattle.g3fax.specs.declared.signal.G3Params.{G3Params}
use Rattle.g3fax.specs.declared.signal.G3Signal.{G3Signal}

-- parameters are told; without any the status is 106, and nothing changes
abbrev pub TellsParams : Option Params → G3Params → G3Params → ℕ → Type 0
TellsParams None old new status = (status ≡ nothing_there) × (new ≡ old)
TellsParams (Some params) old new status = (status ≡ ok) × (new ≡ params_told params)

-- a DIS of these capabilities, if there is one, as a signal is told
abbrev pub told_dis : Option Caps → Option G3Signal
told_dis None = None
told_dis (Some caps) = Some (told (dis caps))

-- a DCS of these parameters, if there is one, as a signal is told
abbrev pub told_dcs : Option Params → Option G3Signal
told_dcs None = None
told_dcs (Some params) = Some (told (dcs params))

-- what is known of the other station is told; if nothing is, the status is 106, and nothing changes
abbrev pub TellsPeer : Option G3Signal → G3Signal → G3Signal → ℕ → Type 0
TellsPeer None old new status = (status ≡ nothing_there) × (new ≡ old)
TellsPeer (Some peer) old new status = (status ≡ ok) × (new ≡ peer)
