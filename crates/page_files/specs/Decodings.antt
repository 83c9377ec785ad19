-- What each way of decoding gives of a page.
use Rattle.std.specs.Prelude.{ℕ, ◌≡◌, ◌⊎◌, Bool, true, false, List, [], Option, Some, None}
use Rattle.page_code.specs.declared.Coding.{Coding}
use Rattle.page_code.specs.declared.Coding.TheVariants.{OneDim, T6}
use Rattle.page_files.specs.CodedPages.{DecodesPage, RefusesCode, RefusesShow, SalvagesRows}
use Rattle.page_code.specs.declared.page_reader.RefusedCode.{RefusedCode}
use Rattle.faults.specs.Faults.{IsOutside, fault_of_code}
use Rattle.page_files.specs.Repairs.{RefusesRepair, RepairsPage}
use Rattle.page_files.specs.RepairsT6.{RepairsT6}
use Rattle.page_files.specs.declared.decoding.Broken.{Broken}
use Rattle.page_files.specs.declared.decoding.Broken.TheVariants.{Nothing, WholeRows, AllRows}
use Rattle.page_files.specs.declared.decoding.ReadTo.{ReadTo}
use Rattle.page_files.specs.declared.decoding.ReadTo.TheVariants.{End, Fault, Lines, NoEnd}
use Rattle.faults.specs.declared.fault.ToolFault.{ToolFault}
use Rattle.page_files.specs.declared.options.PageForm.{PageForm}

-- the way of decoding that `--salvage` and `--repair` ask for, in this order
abbrev pub broken_asked : Bool → Bool → Broken
broken_asked salvage true = AllRows
broken_asked true false = WholeRows
broken_asked false false = Nothing

-- what `decode --repair` gives: in T.4 a row for each line, with the number of repaired ones; in T.6 as `RepairsT6` says
abbrev pub GivesRepaired : Coding → PageForm → List ℕ → ReadTo → ℕ → List ℕ → List ℕ → Type 0
GivesRepaired OneDim form octets (Lines count) rows image lines =
    RepairsPage form.order form.width form.fine (Some []) (Some image) (Some []) (Some lines) (record { rows = rows; repaired = count })
    octets
GivesRepaired T6 form octets read_to rows image lines = RepairsT6 form octets read_to rows image lines
GivesRepaired OneDim form octets read_to rows image lines = ⊥

-- Which result each way of decoding can have. `image` and `lines` are what is written, from nothing. A page read to its end: its image and
-- the bits of its code, in the first two ways. If it is refused: nothing in the first way; its whole rows and the fault in the second; in
-- the third, for T.4 a row for each line with the number of repaired ones, for T.6 its whole rows, with the bit after them if only EOFB is
-- missing or broken, or with the fault.
abbrev pub GivesPage : Broken → PageForm → List ℕ → ReadTo → ℕ → List ℕ → List ℕ → Type 0
GivesPage Nothing form octets (End bits) rows image lines =
    DecodesPage form.coding form.order form.width form.fine (Some []) (Some image) rows bits octets × (lines ≡ [])
GivesPage WholeRows form octets (End bits) rows image lines =
    DecodesPage form.coding form.order form.width form.fine (Some []) (Some image) rows bits octets × (lines ≡ [])
GivesPage WholeRows form octets (Fault fault) rows image lines =
    SalvagesRows form.coding form.order form.width form.fine (Some []) (Some image) rows fault octets × (lines ≡ [])
GivesPage AllRows form octets read_to rows image lines = GivesRepaired form.coding form octets read_to rows image lines
GivesPage broken form octets read_to rows image lines = ⊥

-- why a repair has no result: in T.4 as `RefusesRepair` says, in T.6 reading, writing or memory alone
abbrev pub RefusesRepaired : Coding → PageForm → List ℕ → ToolFault → Type 0
RefusesRepaired OneDim form octets fault = RefusesRepair form.order form.width octets fault
RefusesRepaired T6 form octets fault = IsOutside fault

-- why each way of decoding has no result: without `--salvage` and `--repair` as `RefusesShow` says, with `--salvage` reading, writing or
-- memory alone, with `--repair` as `RefusesRepaired` says
abbrev pub RefusesDecoding : Broken → PageForm → List ℕ → ToolFault → Type 0
RefusesDecoding Nothing form octets fault = RefusesShow form.coding form.order form.width octets fault
RefusesDecoding WholeRows form octets fault = IsOutside fault
RefusesDecoding AllRows form octets fault = RefusesRepaired form.coding form octets fault

-- a refusal is kept beside the fault, and the fault is that refusal's
abbrev pub IsOfKept : Option RefusedCode → ToolFault → Type 0
IsOfKept kept fault = (code : RefusedCode) × (kept ≡ Some code) × (fault ≡ fault_of_code code.fault)

-- What is kept beside a fault: the refusal that caused it. If reading, writing or memory failed, there may be none.
abbrev pub IsKept : Option RefusedCode → ToolFault → Type 0
IsKept kept fault = IsOutside fault ⊎ IsOfKept kept fault

-- why octets begin with no page's code: memory is refused, and nothing is kept; or it is the refusal that is kept
abbrev pub RefusesKept : Option RefusedCode → PageForm → List ℕ → ToolFault → Type 0
RefusesKept None form octets fault = IsOutside fault
RefusesKept (Some code) form octets fault = (fault ≡ fault_of_code code.fault) × RefusesCode form.coding form.order form.width octets fault

-- what is kept beside a page's rows: the refusal that ended them; nothing for a page that is read to its end
abbrev pub KeepsReadTo : Option RefusedCode → ReadTo → Type 0
KeepsReadTo kept (Fault fault) = IsOfKept kept fault
KeepsReadTo kept (End bits) = kept ≡ None
KeepsReadTo kept (Lines count) = kept ≡ None
KeepsReadTo kept (NoEnd bits) = kept ≡ None
