-- The law of what `decode --each` reports of a file of one page.
use Rattle.std.specs.Prelude.{ℕ, ◌≡◌, Bool, List, [], Some, Result}
use Rattle.faults.specs.declared.fault.ToolFault.{ToolFault}
use Rattle.page_files.specs.Answers.{AnswersDecode}
use Rattle.page_files.specs.CodedPages.{WritesPage}
use Rattle.page_files.specs.declared.options.DecodeOptions.{DecodeOptions}
use Rattle.page_files.specs.declared.options.PageForm.{PageForm}
use Rattle.raster.specs.Pages.{PagePixels}
use Rattle.commands.specs.Each.{EndsAs}
use Rattle.commands.specs.Pages.{IsAnswered, is_answered, page_lines}
use Rattle.commands.specs.declared.decode.each.report.FileReport.{FileReport}

-- What is reported of a file of these octets is what `decode` gives of the octets with the same options: its lines on standard error, each
-- after the page's number, and whether its status is 0.
abbrev pub IsAsDecode : DecodeOptions → PageForm → List ℕ → FileReport → Type 0
IsAsDecode options form octets report = (image : PagePixels) × (told : List ℕ) × (end : Result Bool ToolFault)
    × ((text : List ℕ) → WritesPage image (Some []) (Some text) → AnswersDecode form options octets text told end)
    × (report.told.items ≡ page_lines 1 told) × (report.is_complete ≡ is_answered end)

-- the law for a file of one page that has an answer in a way that is asked for
abbrev pub OnePageAsDecode : Type 0
OnePageAsDecode = (options asked : DecodeOptions) (form : PageForm) (octets : List ℕ) (report : FileReport)
    (ends : EndsAs options form octets report) → ends.before ≡ 0 → IsAnswered asked form ends.last ends.page
    → IsAsDecode asked form octets report
