-- What a reader's answer says of the bits, in either code.
use Rattle.std.proofs.Common.{ℕ, ◌≡◌, ◌≢◌, Bool, List, inl, inr, refl, ap, sym, ◌∙◌, subst}
use Rattle.std.specs.Prelude.{◌↔◌, ◌⊎◌, Result, Ok, Err, IfOk, IfErr}
use Rattle.raster.specs.declared.row.Color.{Color}
use Rattle.raster.specs.Pages.{PagePixels}
use Rattle.raster.specs.Pixels.{IsWidth}
use Rattle.run_tables.specs.Faults.{BegunAt}
use Rattle.run_tables.specs.declared.fault.CodeFault.{CodeFault}
use Rattle.run_tables.specs.declared.fault.CodeFaultKind.{CodeFaultKind}
use Rattle.run_tables.specs.declared.fault.CodeFaultKind.TheVariants.{NoRows, NoMemory, BadCode, Truncated, RunTooLong, Backwards, PastEnd}
use Rattle.run_tables.specs.declared.fault.CodeFaultKind.TheVariants.{EmptyHorizontal, Extension, MissingEofb, TooManyCodedRows}
use Rattle.page_code.specs.PageCodes.{GivesPage, GivesRows, IsOnlyAnswer, ReadsPage, RefusesPage}

-- either memory was refused, or what holds of every other refusal
pub memory_or : (kind : CodeFaultKind) (P : Type 0) → (kind ≢ NoMemory → P) → (kind ≡ NoMemory) ⊎ P
memory_or NoMemory P other = inl refl
memory_or NoRows P other = inr (other (λ e. cc))
memory_or BadCode P other = inr (other (λ e. cc))
memory_or Truncated P other = inr (other (λ e. cc))
memory_or RunTooLong P other = inr (other (λ e. cc))
memory_or Backwards P other = inr (other (λ e. cc))
memory_or PastEnd P other = inr (other (λ e. cc))
memory_or EmptyHorizontal P other = inr (other (λ e. cc))
memory_or Extension P other = inr (other (λ e. cc))
memory_or MissingEofb P other = inr (other (λ e. cc))
memory_or TooManyCodedRows P other = inr (other (λ e. cc))

-- a refusal as the whole call answers it
pub gives_begun : (outcome : Result (List (List Color) × ℕ) (ℕ
    × CodeFaultKind)) (width start : ℕ) (fine : Bool) (fault answer : CodeFault) → BegunAt start fault answer
    → GivesPage outcome width fine (Err fault) → GivesPage outcome width fine (Err answer)
gives_begun outcome width start fine fault answer (inl memory) gives = inl (ap (λ (f : CodeFault). f.kind) memory.1)
gives_begun outcome width start fine fault answer (inr same) (inl memory) = absurd (same.0 memory)
gives_begun outcome width start fine fault answer (inr same) (inr e) = inr (subst (λ (f : CodeFault). outcome ≡ Err (f.place, f.kind)) (sym
    same.1) e)

pub begun_memory : (start : ℕ) (fault answer : CodeFault) → BegunAt start fault answer → answer.kind ≡ NoMemory → answer.place ≡ start
begun_memory start fault answer (inl memory) is = ap (λ (f : CodeFault). f.place) memory.1
begun_memory start fault answer (inr same) is = absurd (same.0 (sym (ap (λ (f : CodeFault). f.kind) same.1) ∙ is))

pub gives_rows : (outcome : Result (List (List Color) × ℕ) (ℕ × CodeFaultKind)) (width : ℕ) (fine : Bool) (result : Result (PagePixels
    × ℕ) CodeFault) → GivesPage outcome width fine result → GivesRows outcome result
gives_rows outcome width fine (Ok read) gives = gives.2
gives_rows outcome width fine (Err fault) (inl memory) = λ differs. absurd (differs memory)
gives_rows outcome width fine (Err fault) (inr e) = λ differs. e

module _ (Reads : ℕ → List Bool → List (List Color) → ℕ → Type 0) (Longest : ℕ → List Bool → ℕ → CodeFaultKind → Type 0) (outcome : ℕ
    → List Bool → Result (List (List Color) × ℕ) (ℕ
    × CodeFaultKind)) (exactly : (width : ℕ) (bits : List Bool) (rows : List (List Color)) (used : ℕ) → IsWidth width
    → (outcome width bits ≡ Ok (rows, used)) ↔ Reads width bits rows used) (no_page : (width : ℕ) (bits : List Bool) (place : ℕ) (kind :
    CodeFaultKind) (rows : List (List Color)) (used : ℕ) → IsWidth width → outcome width bits ≡ Err (place, kind)
    → ¬ Reads width bits rows used) (at_longest : (width : ℕ) (bits : List Bool) (place : ℕ) (kind : CodeFaultKind)
    → outcome width bits ≡ Err (place, kind)
    → Longest width bits place kind) (width : ℕ) (fine : Bool) (bits : List Bool) (result : Result (PagePixels
    × ℕ) CodeFault) (wide : IsWidth width) (gives : GivesPage (outcome width bits) width fine result) where
  pub gives_reads : IfOk result (λ read. ReadsPage Reads width fine bits read.0 read.1)
  gives_reads = seen result gives
    where
      seen : (r : Result (PagePixels × ℕ) CodeFault) → GivesPage (outcome width bits) width fine r
          → IfOk r (λ read. ReadsPage Reads width fine bits read.0 read.1)
      seen (Ok read) is = record { width_is = is.0; fine_is = is.1; reads = (exactly width bits read.0.rows read.1 wide).0 is.2 }
      seen (Err fault) is = tt

  pub gives_only : IsOnlyAnswer Reads width bits result
  gives_only = seen result gives
    where
      seen : (r : Result (PagePixels × ℕ) CodeFault) → GivesPage (outcome width bits) width fine r → IsOnlyAnswer Reads width bits r
      seen (Ok read) is rows used reads =
          let both : ◌≡◌ {A = Result (List (List Color) × ℕ) (ℕ
          × CodeFaultKind)} (Ok (read.0.rows, read.1)) (Ok (rows, used)) = sym is.2 ∙ (exactly width bits rows used wide).1 reads in
          let pair : ◌≡◌ {A = List (List Color) × ℕ} (read.0.rows, read.1) (rows, used) = cc in
          (ap (λ (p : List (List Color) × ℕ). p.0) pair, ap (λ (p : List (List Color) × ℕ). p.1) pair)
      seen (Err fault) (inl memory) rows used reads = memory
      seen (Err fault) (inr e) rows used reads = absurd (no_page width bits fault.place fault.kind rows used wide e reads)

  pub gives_refuses : IfErr result (λ fault. fault.kind ≢ NoMemory → RefusesPage Reads Longest width bits fault)
  gives_refuses = seen result gives
    where
      seen : (r : Result (PagePixels × ℕ) CodeFault) → GivesPage (outcome width bits) width fine r
          → IfErr r (λ fault. fault.kind ≢ NoMemory → RefusesPage Reads Longest width bits fault)
      seen (Ok read) is = tt
      seen (Err fault) (inl memory) = λ differs. absurd (differs memory)
      seen (Err fault) (inr e) = λ differs. record {
        longest = at_longest width bits fault.place fault.kind e;
        none = λ rows used reads.
            no_page width bits fault.place fault.kind rows used wide e reads;
      }
