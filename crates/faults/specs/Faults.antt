-- The faults of the program and their lines.
use Rattle.std.specs.Prelude.{ℕ, ◌≡◌, ◌⊎◌, List, ◌++◌, codes}
use Rattle.std.specs.Fmt.{decimal}
use Rattle.std.specs.declared.io.ErrorKind.{ErrorKind}
use Rattle.std.specs.declared.io.ErrorKind.TheVariants.{OutOfMemory}
use Rattle.run_tables.specs.declared.fault.CodeFault.{CodeFault}
use Rattle.run_tables.specs.declared.fault.CodeFaultKind.{CodeFaultKind}
use Rattle.run_tables.specs.declared.fault.CodeFaultKind.TheVariants.{NoMemory}
use Rattle.run_tables.specs.Faults.{number_of}
use Rattle.faults.specs.declared.fault.ToolFault.{ToolFault}
use Rattle.faults.specs.declared.fault.ToolFault.TheVariants.{No, AtBit, AtLine}

-- the line of a fault, with numbers in decimal digits
abbrev pub fault_text : ToolFault → List ℕ
fault_text (No number) = codes "fault " ++ decimal number
fault_text (AtBit number place) =
    codes "fault " ++ (decimal number ++ (codes " at bit " ++ decimal place))
fault_text (AtLine number) = codes "fault 30 at line " ++ decimal number

-- a refusal at a bit as a fault: the bit is kept, except that `NoMemory` (9) has none
abbrev pub fault_at : ℕ → CodeFaultKind → ToolFault
fault_at place NoMemory = No 9
fault_at place kind = AtBit (number_of kind) place

-- the fault of refused bits: the refusal's number, and its bit
abbrev pub fault_of_code : CodeFault → ToolFault
fault_of_code fault = fault_at fault.place fault.kind

-- the fault is `Io` (8) or `NoMemory` (9): reading, writing or memory failed, whatever the input is
abbrev pub IsOutside : ToolFault → Type 0
IsOutside fault = (fault ≡ No 8) ⊎ (fault ≡ No 9)

-- why octets aren't read: reading or memory failed; or a file has more than are read of such a file, `TooManyOctets` (32)
abbrev pub IsUnread : ToolFault → Type 0
IsUnread fault = IsOutside fault ⊎ (fault ≡ No 32)

-- the fault of a reader or writer that fails: `NoMemory` (9) if memory was refused in it, otherwise `Io` (8)
abbrev pub fault_of_io : ErrorKind → ToolFault
fault_of_io OutOfMemory = No 9
fault_of_io kind = No 8
