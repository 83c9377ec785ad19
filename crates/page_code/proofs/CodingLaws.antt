-- The laws of pages in either code, from those of each.
use Rattle.std.specs.Prelude.{ℕ, ◌≡◌, ◌↔◌, ◌⊎◌, Bool, List, Err}
use Rattle.raster.specs.declared.row.Color.{Color}
use Rattle.raster.specs.Pixels.{IsWidth}
use Rattle.run_tables.specs.declared.fault.CodeFaultKind.{CodeFaultKind}
use Rattle.raster.specs.declared.coding.Coding.{Coding}
use Rattle.raster.specs.declared.coding.Coding.TheVariants.{OneDim, T6}
use Rattle.page_code.specs.Codings.{GivesCodedRows, IsLongestIn, ReadsCode, ReadsExactly, ReadsIn, RefusesAtLongest, RefusesNoPage, code_of}
use Rattle.page_code.specs.Codings.{IsRefusedIn, RefusesExactly, read_rows}
use Rattle.page_code.proofs.OneDimension.ReadsItsCode.{reads_its_code as reads_its_code_one_dim}
use Rattle.page_code.proofs.OneDimension.Laws as one_dim
use Rattle.page_code.proofs.OneDimension.PageRefusals.{refuses_pages_exactly as refuses_one_dim}
use Rattle.page_code.proofs.TwoDimensions.ReadsItsCode.{reads_its_code as reads_its_code_t6}
use Rattle.page_code.proofs.TwoDimensions.Laws as t6
use Rattle.page_code.proofs.TwoDimensions.KindLaws.{refuses_pages_exactly as refuses_t6}

pub reads_exactly : ReadsExactly
unfolding read_rows ReadsIn
reads_exactly OneDim = one_dim.reads_pages_exactly
reads_exactly T6 = t6.reads_pages_exactly

pub refuses_no_page : RefusesNoPage
unfolding read_rows ReadsIn
refuses_no_page OneDim = one_dim.refuses_no_page
refuses_no_page T6 = t6.refuses_no_page

pub refuses_at_longest : RefusesAtLongest
unfolding read_rows IsLongestIn
refuses_at_longest OneDim = one_dim.refuses_at_longest
refuses_at_longest T6 = t6.refuses_at_longest

named : (coding : Coding) (width : ℕ) (bits : List Bool) (place : ℕ) (kind : CodeFaultKind) → IsWidth width
    → (read_rows coding width bits ≡ Err (place, kind)) ↔ IsRefusedIn coding width bits place kind
unfolding read_rows IsRefusedIn
named OneDim = refuses_one_dim.named
named T6 = refuses_t6.named

some : (coding : Coding) (width : ℕ) (bits : List Bool) → IsWidth width
    → ((rows : List (List Color)) × (used : ℕ) × ReadsIn coding width bits rows used)
    ⊎ ((place : ℕ) × (kind : CodeFaultKind) × IsRefusedIn coding width bits place kind)
unfolding ReadsIn IsRefusedIn
some OneDim = refuses_one_dim.some
some T6 = refuses_t6.some

none : (coding : Coding) (width : ℕ) (bits : List Bool) (rows : List (List Color)) (used place : ℕ) (kind : CodeFaultKind)
    → IsWidth width → ReadsIn coding width bits rows used → ¬ IsRefusedIn coding width bits place kind
unfolding ReadsIn IsRefusedIn
none OneDim = refuses_one_dim.none
none T6 = refuses_t6.none

one : (coding : Coding) (width : ℕ) (bits : List Bool) (p q : ℕ) (a b : CodeFaultKind) → IsWidth width
    → IsRefusedIn coding width bits p a → IsRefusedIn coding width bits q b → (p ≡ q) × (a ≡ b)
unfolding IsRefusedIn
one OneDim = refuses_one_dim.one
one T6 = refuses_t6.one

pub refuses_exactly : RefusesExactly
refuses_exactly = record {
  named = λ coding width bits place kind wide. named coding width bits place kind wide;
  some = λ coding width bits wide. some coding width bits wide;
  none = λ coding width bits rows used place kind wide reads is. none coding width bits rows used place kind wide reads is;
  one = λ coding width bits p q a b wide first second. one coding width bits p q a b wide first second;
}

pub reads_code : ReadsCode
unfolding code_of ReadsIn
reads_code OneDim = reads_its_code_one_dim
reads_code T6 = reads_its_code_t6

pub gives_coded_rows : GivesCodedRows
gives_coded_rows coding width rows rest wide some few all = (reads_exactly coding width _ rows _ wide).1 (reads_code coding width rows rest
    wide some few all)
