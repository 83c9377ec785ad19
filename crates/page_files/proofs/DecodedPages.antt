-- What is given of a page whose image is written into no octets.
use Rattle.std.proofs.Common.{ℕ, ◌≡◌, List, [], None, Some, inl, inr, length, refl, ◌∙◌}
use Rattle.std.specs.Prelude.{◌≢◌, Option}
use Rattle.raster.specs.Packed.{bits_of}
use Rattle.raster.specs.Pages.{PagePixels}
use Rattle.run_tables.specs.declared.fault.CodeFault.{CodeFault}
use Rattle.run_tables.specs.declared.fault.CodeFaultKind.TheVariants.{NoMemory}
use Rattle.page_code.specs.declared.Coding.{Coding}
use Rattle.page_code.specs.declared.Coding.TheVariants.{OneDim, T6}
use Rattle.page_code.specs.Codings.{IsLongestIn, ReadsIn}
use Rattle.page_code.specs.PageCodes.{ReadsPage, RefusesPage}
use Rattle.page_code.specs.PageReaders.{IsPageRefused}
use Rattle.page_code.specs.RowsSoFar.{AreWholeRows}
use Rattle.page_code.specs.declared.page_reader.RefusedCode.{RefusedCode}
use Rattle.raster.specs.declared.packed.Order.{Order}
use Rattle.page_files.specs.CodedPages.{DecodesPage, RefusesCode, RefusesShow, SalvagesRows, WritesPage}
use Rattle.page_files.specs.Decodings.{GivesPage, GivesRepaired, IsKept, RefusesKept}
use Rattle.faults.specs.Faults.{fault_of_code}
use Rattle.page_files.specs.declared.decoding.Broken.{Broken}
use Rattle.page_files.specs.declared.decoding.Broken.TheVariants.{Nothing, WholeRows, AllRows}
use Rattle.page_files.specs.declared.decoding.ReadTo.TheVariants.{End, Fault}
use Rattle.faults.specs.declared.fault.ToolFault.{ToolFault}
use Rattle.page_files.specs.declared.options.PageForm.{PageForm}
use Rattle.page_files.proofs.DecodedRows.{has_row}
use Rattle.page_files.proofs.RepairsT6.{at_its_bit}

module _ (form : PageForm) (octets image : List ℕ) (page : PagePixels) (writes : WritesPage page (Some []) (Some image))
    (coding : Coding) where
  -- all of it
  pub whole : (bits : ℕ) → ReadsPage (ReadsIn coding) form.width form.fine (bits_of form.order octets) page bits
      → DecodesPage coding form.order form.width form.fine (Some []) (Some image) (length page.rows) bits octets
  whole bits reads = record {
    page = page;
    read = reads;
    rows_are = refl;
    written = writes.0 (has_row coding form.width (bits_of form.order octets) page.rows bits reads.reads);
  }

  -- its whole rows, where the rest is refused
  pub salvaged : (fault : CodeFault) → RefusesPage (ReadsIn coding) (IsLongestIn coding) form.width (bits_of form.order octets) fault
      → fault.kind ≢ NoMemory → (answer : ToolFault) → answer ≡ fault_of_code fault → page.width ≡ form.width → page.fine ≡ form.fine
      → AreWholeRows coding form.width (bits_of form.order octets) page.rows
      → SalvagesRows coding form.order form.width form.fine (Some []) (Some image) (length page.rows) answer octets
  salvaged fault refuses other answer is width_is fine_is rows = record {
    refused = record { code_fault = fault; refuses = refuses; other = other; is = is ∙ at_its_bit fault.place fault.kind other };
    page = page;
    width_is = width_is;
    fine_is = fine_is;
    whole = rows;
    rows_are = refl;
    written = writes.0;
    not_written = writes.1;
  }

-- a page that was read before, unless all rows are asked for
pub found_gives : (broken : Broken) (form : PageForm) (octets image lines : List ℕ) (page : PagePixels) (bits : ℕ) → broken ≢ AllRows
    → ReadsPage (ReadsIn form.coding) form.width form.fine (bits_of form.order octets) page bits
    → WritesPage page (Some []) (Some image) → lines ≡ [] → GivesPage broken form octets (End bits) (length page.rows) image lines
found_gives Nothing form octets image lines page bits some reads writes none =
    (whole form octets image page writes form.coding bits reads, none)
found_gives WholeRows form octets image lines page bits some reads writes none =
    (whole form octets image page writes form.coding bits reads, none)
found_gives AllRows form octets image lines page bits some reads writes none = absurd (some refl)

-- ---- why nothing is given

pub refused_code : (coding : Coding) (order : Order) (width : ℕ) (octets : List ℕ) (code : RefusedCode)
    → IsPageRefused coding width (bits_of order octets) code → (answer : ToolFault) → answer ≡ fault_of_code code.fault
    → RefusesCode coding order width octets answer
refused_code coding order width octets code is answer e = record {
  code_fault = code.fault;
  refuses = is.refuses;
  other = is.memory;
  is = e ∙ at_its_bit code.fault.place code.fault.kind is.memory;
}

pub refused_show : (kept : Option RefusedCode) (form : PageForm) (octets : List ℕ) (fault : ToolFault) → RefusesKept kept form octets fault
    → RefusesShow form.coding form.order form.width octets fault
refused_show None form octets fault refused = inl refused
refused_show (Some code) form octets fault refused = inr refused.1

pub refused_kept : (kept : Option RefusedCode) (form : PageForm) (octets : List ℕ) (fault : ToolFault) → RefusesKept kept form octets fault
    → IsKept kept fault
refused_kept None form octets fault refused = inl refused
refused_kept (Some code) form octets fault refused = inr (code, refl, refused.0)

-- ---- no lines of repaired rows are told of a page that is read to its end, nor of one whose rest is refused

repaired_end : (coding : Coding) (form : PageForm) (octets : List ℕ) (bits rows : ℕ) (image lines : List ℕ)
    → GivesRepaired coding form octets (End bits) rows image lines → lines ≡ []
repaired_end OneDim form octets bits rows image lines given = absurd given
repaired_end T6 form octets bits rows image lines given = given.1

repaired_fault : (coding : Coding) (form : PageForm) (octets : List ℕ) (fault : ToolFault) (rows : ℕ) (image lines : List ℕ)
    → GivesRepaired coding form octets (Fault fault) rows image lines → lines ≡ []
repaired_fault OneDim form octets fault rows image lines given = absurd given
repaired_fault T6 form octets fault rows image lines given = given.1

pub no_lines_end : (broken : Broken) (form : PageForm) (octets : List ℕ) (bits rows : ℕ) (image lines : List ℕ)
    → GivesPage broken form octets (End bits) rows image lines → lines ≡ []
no_lines_end Nothing form octets bits rows image lines given = given.1
no_lines_end WholeRows form octets bits rows image lines given = given.1
no_lines_end AllRows form octets bits rows image lines given = repaired_end form.coding form octets bits rows image lines given

pub no_lines_fault : (broken : Broken) (form : PageForm) (octets : List ℕ) (fault : ToolFault) (rows : ℕ) (image lines : List ℕ)
    → GivesPage broken form octets (Fault fault) rows image lines → lines ≡ []
no_lines_fault Nothing form octets fault rows image lines given = absurd given
no_lines_fault WholeRows form octets fault rows image lines given = given.1
no_lines_fault AllRows form octets fault rows image lines given = repaired_fault form.coding form octets fault rows image lines given
