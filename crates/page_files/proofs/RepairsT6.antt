-- What is given of a page in T.6 that is repaired.
use Rattle.std.proofs.Common.{ℕ, ◌≡◌, ◌<◌, List, [], ◌∷◌, Some, length, drop, inl, inr, refl, ap, ◌∙◌, subst, arith}
use Rattle.std.specs.Prelude.{◌≢◌, ◌⊎◌, Option}
use Rattle.std.proofs.lemmas.Bool.{cases_eq}
use Rattle.raster.specs.Packed.{bits_of}
use Rattle.raster.specs.Pages.{PagePixels}
use Rattle.raster.specs.PbmText.{AppendsSome, ArePagesText}
use Rattle.run_tables.specs.declared.fault.CodeFault.{CodeFault}
use Rattle.run_tables.specs.declared.fault.CodeFaultKind.{CodeFaultKind}
use Rattle.run_tables.specs.declared.fault.CodeFaultKind.TheVariants.{NoRows, NoMemory, BadCode, Truncated, RunTooLong, Backwards, PastEnd, EmptyHorizontal, Extension}
use Rattle.run_tables.specs.declared.fault.CodeFaultKind.TheVariants.{MissingEofb, TooManyCodedRows}
use Rattle.run_tables.specs.Faults.{number_of as kind_number}
use Rattle.page_code.specs.declared.Coding.TheVariants.{T6}
use Rattle.page_code.specs.Codings.{IsLongestIn, ReadsIn}
use Rattle.page_code.specs.PageCodes.{ReadsPage, RefusesPage}
use Rattle.page_code.specs.RowsSoFar.{AreWholeRows}
use Rattle.page_code.specs.TwoDimensions.PageEnds.{HoldsRowsTo, NoRowBegins}
use Rattle.faults.specs.Faults.{fault_at, fault_of_code}
use Rattle.page_files.specs.CodedPages.{DecodesPage, RefusesCode}
use Rattle.page_files.specs.RepairsT6.{BreaksOff, EndsWithoutEofb}
use Rattle.faults.specs.declared.fault.ToolFault.{ToolFault}
use Rattle.faults.specs.declared.fault.ToolFault.TheVariants.{AtBit}
use Rattle.page_files.specs.declared.options.PageForm.{PageForm}
use Rattle.page_files.proofs.DecodedRows.{has_row}

-- a fault that isn't want of memory is told with its bit
pub at_its_bit : (place : ℕ) (kind : CodeFaultKind) → kind ≢ NoMemory → fault_at place kind ≡ AtBit (kind_number kind) place
at_its_bit place NoMemory other = absurd (other refl)
at_its_bit place Truncated other = refl
at_its_bit place BadCode other = refl
at_its_bit place RunTooLong other = refl
at_its_bit place NoRows other = refl
at_its_bit place TooManyCodedRows other = refl
at_its_bit place Backwards other = refl
at_its_bit place PastEnd other = refl
at_its_bit place EmptyHorizontal other = refl
at_its_bit place Extension other = refl
at_its_bit place MissingEofb other = refl

-- the image of a page is written, where it has a row
abbrev Written : PagePixels → List ℕ → List ℕ → Type 0
Written page before image = 0 < length page.rows → AppendsSome (ArePagesText (page ∷ [])) (Some before) (Some image)

module _ (form : PageForm) (octets before image : List ℕ) (empty : before ≡ []) (page : PagePixels) (rows : ℕ)
    (rows_are : rows ≡ length page.rows) (written : Written page before image) where
  into_none : Written page [] image
  into_none = subst (λ (old : List ℕ). Written page old image) empty written

  pub decoded : (bits : ℕ) → ReadsPage (ReadsIn T6) form.width form.fine (bits_of form.order octets) page bits
      → DecodesPage T6 form.order form.width form.fine (Some []) (Some image) rows bits octets
  decoded bits reads = record {
    page = page;
    read = reads;
    rows_are = rows_are;
    written = into_none (has_row T6 form.width (bits_of form.order octets) page.rows bits reads.reads);
  }

  module _ (fault : CodeFault) (refuses : RefusesPage (ReadsIn T6) (IsLongestIn T6) form.width (bits_of form.order octets) fault)
      (other : fault.kind ≢ NoMemory) (answer : ToolFault) (is : answer ≡ fault_of_code fault)
      (width_is : page.width ≡ form.width) (fine_is : page.fine ≡ form.fine)
      (whole : AreWholeRows T6 form.width (bits_of form.order octets) page.rows) (bit : ℕ)
      (there : 0 < length page.rows → HoldsRowsTo form.width (bits_of form.order octets) page.rows bit) where
    refused : RefusesCode T6 form.order form.width octets answer
    refused = record { code_fault = fault; refuses = refuses; other = other; is = is ∙ at_its_bit fault.place fault.kind other }

    pub ended : 0 < rows → NoRowBegins (drop bit (bits_of form.order octets))
        → EndsWithoutEofb form.order form.width form.fine (Some []) (Some image) rows bit octets
    ended some ends =
        let row : 0 < length page.rows = omega (arith, some, rows_are) in
        record {
          fault = answer;
          refused = refused;
          page = page;
          width_is = width_is;
          fine_is = fine_is;
          whole = whole;
          there = there row;
          ends = ends;
          some = some;
          rows_are = rows_are;
          written = into_none row;
        }

    pub broken : (length page.rows ≡ 0 → ◌≡◌ {A = Option (List ℕ)} (Some image) (Some before))
        → (rows ≡ 0) ⊎ (¬ NoRowBegins (drop bit (bits_of form.order octets)))
        → BreaksOff form.order form.width form.fine (Some []) (Some image) rows answer octets
    broken none lost = record {
      salvaged = record {
        refused = refused;
        page = page;
        width_is = width_is;
        fine_is = fine_is;
        whole = whole;
        rows_are = rows_are;
        written = λ some. into_none (omega (arith, some, rows_are));
        not_written = λ zero. none (omega (arith, zero, rows_are)) ∙ ap Some empty;
      };
      lost = elim lost [
        | inl zero ↦ inl zero
        | inr more ↦ elim (cases_eq rows 0) [
          | inl zero ↦ inl zero
          | inr some ↦ inr (bit, there (omega (arith, some, rows_are)), more)
        ]
      ];
    }
