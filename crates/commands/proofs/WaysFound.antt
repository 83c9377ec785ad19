-- What is known of the first page of octets that are identified.
use Rattle.std.proofs.Common.{◌≡◌, ℕ, List, Some, None, Ok, Err, ap, subst}
use Rattle.std.specs.Prelude.{Bool, IfSome, Option, Result}
use Rattle.commands.specs.FoundForms.{form_by, lined, used_in}
use Rattle.commands.specs.Several.{bits_in}
use Rattle.commands.specs.declared.damaged.Unread.{Unread}
use Rattle.commands.specs.declared.decode.ends.FileEnd.{FileEnd}
use Rattle.faults.specs.declared.fault.ToolFault.{ToolFault}
use Rattle.page_files.specs.Found.{ReadsSo}
use Rattle.page_files.specs.Identified.{ReadsTo}
use Rattle.page_files.specs.LaterPages.{BeginsWith}
use Rattle.page_files.specs.declared.found.Found.{Found}
use Rattle.page_files.specs.declared.found.Found.TheVariants as found
use Rattle.page_files.specs.declared.options.PageForm.{PageForm}

abbrev form_or : PageForm → Result PageForm FileEnd → PageForm
form_or other (Ok form) = form
form_or other (Err end) = other

-- a page whose code is read to its end
reads_end : (octets : List ℕ) (form : PageForm) (rows : ℕ) (fine : Bool) (end : Result ℕ ToolFault) → ReadsTo octets form rows end
    → IfSome (bits_in end) (BeginsWith (lined fine form) octets)
reads_end octets form rows fine (Ok bits) reads = (reads.0, reads.1)
reads_end octets form rows fine (Err fault) reads = tt

-- octets begin with a page's code of as many bits as are known
pub found_begins : (octets : List ℕ) (fine : Bool) (unread : Option Unread) (what : Found) (form : PageForm)
    → ReadsSo octets what → form_by fine unread what ≡ Ok form → IfSome (used_in what) (BeginsWith form octets)
found_begins octets fine None (found.Page way) form reads is =
    subst (λ (f : PageForm). IfSome (bits_in way.end) (BeginsWith f octets)) (ap (form_or form) is)
    (reads_end octets way.form way.rows fine way.end reads)
found_begins octets fine (Some said) (found.Page way) form reads is = cc
found_begins octets fine unread (found.Begun way) form reads is = tt
found_begins octets fine unread (found.Format name) form reads is = tt
found_begins octets fine unread found.Several form reads is = tt
found_begins octets fine unread found.Nothing form reads is = tt
