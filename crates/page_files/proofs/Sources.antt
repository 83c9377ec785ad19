-- The same bits in another order.
use Rattle.std.proofs.Common.{◌≡◌, ℕ, List, Some, None, Ok, Err, sym}
use Rattle.std.specs.Prelude.{Option, Result}
use Rattle.raster.specs.declared.packed.Order.{Order}
use Rattle.raster.specs.Packed.{bits_of}
use Rattle.page_code.specs.declared.Coding.{Coding}
use Rattle.page_code.specs.declared.Coding.TheVariants.{OneDim, T6}
use Rattle.faults.specs.declared.fault.ToolFault.{ToolFault}
use Rattle.page_files.specs.CodedPages.{RefusesCode}
use Rattle.page_files.specs.Identified.{IsMended, IsTried, MendsTo, ReadsTo}
use Rattle.page_files.specs.Sources.{IsPageIn, in_order, page_in_order}
use Rattle.page_files.specs.declared.identify.Tried.{Tried}
use Rattle.page_files.specs.declared.options.PageForm.{PageForm}
use Rattle.page_files.specs.declared.source.FoundPage.{FoundPage}

refuses_alike : (coding : Coding) (first order : Order) (width : ℕ) (code octets : List ℕ) (fault : ToolFault)
    → bits_of first code ≡ bits_of order octets → RefusesCode coding first width code fault → RefusesCode coding order width octets fault
refuses_alike coding first order width code octets fault same refuses = record {
  code_fault = refuses.code_fault;
  refuses = rw (sym same) refuses.refuses;
  other = refuses.other;
  is = refuses.is;
}

reads_alike : (form : PageForm) (order : Order) (code octets : List ℕ) (rows : ℕ) (end : Result ℕ ToolFault)
    → bits_of form.order code ≡ bits_of order octets → ReadsTo code form rows end → ReadsTo octets (record form { order = order }) rows end
reads_alike form order code octets rows (Ok bits) same reads = (reads.0, rw (sym same) reads.1, reads.2)
reads_alike form order code octets rows (Err fault) same reads = (
  refuses_alike form.coding form.order order form.width code octets fault same reads.0,
  (reads.1.0, rw (sym same) reads.1.1, reads.1.2),
)

mends_alike : (first order : Order) (width : ℕ) (code octets : List ℕ) (mended : Option ℕ) → bits_of first code ≡ bits_of order octets
    → MendsTo first width code mended → MendsTo order width octets mended
mends_alike first order width code octets (Some rows) same mends = (mends.0, rw (sym same) mends.1, mends.2, mends.3)
mends_alike first order width code octets None same mends = λ page repair. mends page (rw same repair)

mended_alike : (form : PageForm) (coding : Coding) (order : Order) (code octets : List ℕ) (end : Result ℕ ToolFault) (mended : Option ℕ)
    → bits_of form.order code ≡ bits_of order octets → IsMended code form coding end mended
    → IsMended octets (record form { order = order }) coding end mended
mended_alike form OneDim order code octets (Ok bits) mended same is = is
mended_alike form T6 order code octets (Ok bits) mended same is = is
mended_alike form OneDim order code octets (Err fault) mended same is =
    mends_alike form.order order form.width code octets mended same is
mended_alike form T6 order code octets (Err fault) mended same is = is

-- the result of a way
pub tried_alike : (order : Order) (code octets : List ℕ) (tried : Tried) → bits_of tried.form.order code ≡ bits_of order octets
    → IsTried code tried → IsTried octets (in_order order tried)
tried_alike order code octets tried same is = (
  is.0,
  reads_alike tried.form order code octets tried.rows tried.end same is.1,
  mended_alike tried.form tried.form.coding order code octets tried.end tried.mended same is.2,
)

-- a page
pub page_alike : (order : Order) (code octets : List ℕ) (found : FoundPage) → bits_of found.form.order code ≡ bits_of order octets
    → IsPageIn code found → IsPageIn octets (page_in_order order found)
page_alike order code octets found same is = rw (sym same) is
