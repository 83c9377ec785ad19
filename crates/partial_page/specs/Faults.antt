-- The numbers of the faults.
use Rattle.std.specs.Prelude.{ℕ}
use Rattle.partial_page.specs.declared.fault.BlockFault.{BlockFault}
use Rattle.partial_page.specs.declared.fault.BlockFault.TheVariants.{NoMemory, TooLong, PageTooLong}

-- the number of a fault among all faults: NoMemory 9, TooLong 23, PageTooLong 24
abbrev pub number_of : BlockFault → ℕ
number_of NoMemory = 9
number_of TooLong = 23
number_of PageTooLong = 24
