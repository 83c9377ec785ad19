-- The faults of coded bits once more, by the list of all faults.
use Rattle.std.specs.Prelude.{ℕ, ◌≡◌, ◌↔◌, ◌∷◌, [], List, Contains}
use Rattle.run_tables.specs.Faults.{number_of}
use Rattle.run_tables.specs.declared.fault.CodeFaultKind.{CodeFaultKind}
use Rattle.run_tables.specs.declared.fault.CodeFaultKind.TheVariants.{NoRows, NoMemory, BadCode, Truncated, RunTooLong, Backwards, PastEnd}
use Rattle.run_tables.specs.declared.fault.CodeFaultKind.TheVariants.{EmptyHorizontal, Extension, MissingEofb, TooManyCodedRows}

-- the kinds by their numbers in the list of all faults: 4, 9 and 10 to 18
abbrev pub fault_list : List (ℕ × CodeFaultKind)
fault_list =
    (4, NoRows) ∷ (9, NoMemory) ∷ (10, BadCode) ∷ (11, Truncated) ∷ (12, RunTooLong) ∷ (13, Backwards) ∷ (14, PastEnd) ∷
    (15, EmptyHorizontal) ∷ (16, Extension) ∷ (17, MissingEofb) ∷ (18, TooManyCodedRows) ∷ []

-- law: a kind has the number that the list gives it, and no other
abbrev pub FaultsHaveNumbers : Type 0
FaultsHaveNumbers = (n : ℕ) (kind : CodeFaultKind) → (number_of kind ≡ n) ↔ Contains fault_list (n, kind)
