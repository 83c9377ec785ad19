-- Refusals of coded bits: the numbers of their kinds, and the bit at which NoMemory is put.
use Rattle.std.specs.Prelude.{ℕ, ◌≡◌, ◌≢◌, ◌⊎◌}
use Rattle.run_tables.specs.declared.fault.CodeFault.{CodeFault}
use Rattle.run_tables.specs.declared.fault.CodeFaultKind.{CodeFaultKind}
use Rattle.run_tables.specs.declared.fault.CodeFaultKind.TheVariants.{NoRows, NoMemory, BadCode, Truncated, RunTooLong, Backwards, PastEnd}
use Rattle.run_tables.specs.declared.fault.CodeFaultKind.TheVariants.{EmptyHorizontal, Extension, MissingEofb, TooManyCodedRows}

-- the number of a kind in the list of all faults, docs/FAULTS.md
abbrev pub number_of : CodeFaultKind → ℕ
number_of NoRows = 4
number_of NoMemory = 9
number_of BadCode = 10
number_of Truncated = 11
number_of RunTooLong = 12
number_of Backwards = 13
number_of PastEnd = 14
number_of EmptyHorizontal = 15
number_of Extension = 16
number_of MissingEofb = 17
number_of TooManyCodedRows = 18

-- the refusal that a call returns which began at bit `start`: NoMemory is put there, any other stays where it is
abbrev pub BegunAt : ℕ → CodeFault → CodeFault → Type 0
BegunAt start fault answer = ((fault.kind ≡ NoMemory) × (answer ≡ record { place = start; kind = NoMemory })) ⊎ ((fault.kind ≢ NoMemory)
    × (answer ≡ fault))
