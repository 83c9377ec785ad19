-- The numbers of the faults of signals.
use Rattle.std.specs.Prelude.{ℕ}
use Rattle.signals.specs.declared.agreement.NotCompatible.{NotCompatible}
use Rattle.signals.specs.declared.fault.SignalFault.{SignalFault}
use Rattle.signals.specs.declared.fault.SignalFault.TheVariants.{BadAddress, BadControl, ShortField}

-- the number of a fault among all faults: BadAddress 20, BadControl 21, ShortField 22
abbrev pub number_of : SignalFault → ℕ
number_of BadAddress = 20
number_of BadControl = 21
number_of ShortField = 22

-- the number of NotCompatible, two stations with nothing in common: 28
abbrev pub number_of_incompatible : NotCompatible → ℕ
number_of_incompatible _ = 28
