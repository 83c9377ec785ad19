-- The faults of coded bits by the list of all faults.
use Rattle.std.proofs.Common.{◌≡◌, ℕ, zero, suc, ◌<◌, Contains, refl, arith, subst}
use Rattle.std.specs.Prelude.{slice_index_or}
use Rattle.run_tables.specs.FaultList.{fault_list, FaultsHaveNumbers}
use Rattle.run_tables.specs.Faults.{number_of}
use Rattle.run_tables.specs.declared.fault.CodeFaultKind.{CodeFaultKind}
use Rattle.run_tables.specs.declared.fault.CodeFaultKind.TheVariants.{NoRows, NoMemory, BadCode, Truncated, RunTooLong, Backwards, PastEnd}
use Rattle.run_tables.specs.declared.fault.CodeFaultKind.TheVariants.{EmptyHorizontal, Extension, MissingEofb, TooManyCodedRows}

named : (kind : CodeFaultKind) → Contains fault_list (number_of kind, kind)
named NoRows = (0, omega arith, refl)
named NoMemory = (1, omega arith, refl)
named BadCode = (2, omega arith, refl)
named Truncated = (3, omega arith, refl)
named RunTooLong = (4, omega arith, refl)
named Backwards = (5, omega arith, refl)
named PastEnd = (6, omega arith, refl)
named EmptyHorizontal = (7, omega arith, refl)
named Extension = (8, omega arith, refl)
named MissingEofb = (9, omega arith, refl)
named TooManyCodedRows = (10, omega arith, refl)

numbered : (n : ℕ) (kind : CodeFaultKind) (k : ℕ) → k < 11 → slice_index_or fault_list k (n, kind) ≡ (n, kind) → number_of kind ≡ n
numbered n kind zero l e = subst (λ pair. number_of pair.1 ≡ pair.0) e refl
numbered n kind (suc zero) l e = subst (λ pair. number_of pair.1 ≡ pair.0) e refl
numbered n kind (suc (suc zero)) l e = subst (λ pair. number_of pair.1 ≡ pair.0) e refl
numbered n kind (suc (suc (suc zero))) l e = subst (λ pair. number_of pair.1 ≡ pair.0) e refl
numbered n kind (suc (suc (suc (suc zero)))) l e = subst (λ pair. number_of pair.1 ≡ pair.0) e refl
numbered n kind (suc (suc (suc (suc (suc zero))))) l e = subst (λ pair. number_of pair.1 ≡ pair.0) e refl
numbered n kind (suc (suc (suc (suc (suc (suc zero)))))) l e = subst (λ pair. number_of pair.1 ≡ pair.0) e refl
numbered n kind (suc (suc (suc (suc (suc (suc (suc zero))))))) l e = subst (λ pair. number_of pair.1 ≡ pair.0) e refl
numbered n kind (suc (suc (suc (suc (suc (suc (suc (suc zero)))))))) l e = subst (λ pair. number_of pair.1 ≡ pair.0) e refl
numbered n kind (suc (suc (suc (suc (suc (suc (suc (suc (suc zero))))))))) l e = subst (λ pair. number_of pair.1 ≡ pair.0) e refl
numbered n kind (suc (suc (suc (suc (suc (suc (suc (suc (suc (suc zero)))))))))) l e = subst (λ pair. number_of pair.1 ≡ pair.0) e refl
numbered n kind (suc (suc (suc (suc (suc (suc (suc (suc (suc (suc (suc k))))))))))) l e = absurd (omega arith)

pub faults_have_numbers : FaultsHaveNumbers
faults_have_numbers n kind = (λ e. subst (λ m. Contains fault_list (m, kind)) e (named kind), λ has. numbered n kind has.0 has.1 has.2)
