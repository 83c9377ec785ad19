-- What can come of each command: which engine ran, by that engine's own definition, and what the program ends with.
--
-- No clause says what a file holds. So the octets that a command has read, and what a writer had before and after, are some octets of which
-- the engine's definition holds.
use Rattle.std.specs.Prelude.{◌≡◌, ◌⊎◌, ◌<◌, ◌||◌, ℕ, Bool, List, Option, Some, None, Result, Ok, Err, nat_eq, not, true, false}
use Rattle.std.specs.Prelude.{IfOk, if◌then◌else◌, length}
use Rattle.call_tallies.specs.ManyCalls.{TellsMany}
use Rattle.captures.specs.declared.frames.ListForm.{ListForm}
use Rattle.captures.specs.declared.frames.ListForm.TheVariants.{Explained, Plain, Records}
use Rattle.calls.specs.BadLines.{LeavesDriven, RefusesDriven}
use Rattle.calls.specs.Calls.{LeavesCall, RefusesCall}
use Rattle.calls.specs.Ends.{ended_normally}
use Rattle.calls.specs.SentBits.{Written}
use Rattle.line_sim.specs.declared.live.Ending.{Ending}
use Rattle.faults.specs.Faults.{IsOutside, IsUnread}
use Rattle.faults.specs.declared.fault.ToolFault.{ToolFault}
use Rattle.command_files.specs.Runs.{completeness_of}
use Rattle.command_files.specs.declared.files.bounded.Ways.{Ways}
use Rattle.command_files.specs.declared.files.bounded.Ways.TheVariants as ways
use Rattle.page_files.specs.CodedPages.{AppendsCode, RefusesShow, ShowsPage}
use Rattle.page_files.specs.Identified.{Identifies}
use Rattle.page_files.specs.LaterPages.{AnswersPage}
use Rattle.page_files.specs.declared.identify.Identity.{Identity}
use Rattle.page_files.specs.declared.identify.Identity.TheVariants.{Known, Several, Nothing}
use Rattle.page_files.specs.declared.options.PageForm.{PageForm}
use Rattle.raster.specs.Pages.{PagePixels}
use Rattle.command_files.specs.declared.command.Completeness.{Completeness}
use Rattle.command_files.specs.declared.command.Completeness.TheVariants.{Lacking, Whole}
use Rattle.commands.specs.FoundForms.{IsFormOf}
use Rattle.commands.specs.declared.call.ScriptCommand.{ScriptCommand}
use Rattle.commands.specs.declared.call.drives.DriveCommand.{DriveCommand}
use Rattle.commands.specs.declared.code.CodeCommand.{CodeCommand}
use Rattle.commands.specs.declared.decode.DecodeCommand.{DecodeCommand}
use Rattle.commands.specs.declared.decode.ends.FileEnd.{FileEnd}
use Rattle.commands.specs.declared.show.ShowCommand.{ShowCommand}

-- ---- pages

-- An image was read that has a row, and its code was written. Why an image is refused isn't said here: its octets are not kept.
abbrev pub CodeGives : CodeCommand → Result Completeness ToolFault → Type 0
CodeGives command given = IfOk given (λ completeness. (completeness ≡ Whole)
    × ((page : PagePixels) × (0 < length page.rows) × (before after : Option (List ℕ))
    × AppendsCode command.coding command.order page.width page.rows before after))

-- the form of the page that `show` prints
abbrev pub shown_form : ShowCommand → PageForm
shown_form command = record { coding = command.coding; order = command.order; width = command.width; fine = false }

-- the page was printed as text, or its code is refused
abbrev pub ShowGives : ShowCommand → Result Completeness ToolFault → Type 0
ShowGives command (Ok completeness) = (completeness ≡ Whole)
    × ((octets : List ℕ) × (before after : Option (List ℕ)) × ShowsPage command.coding command.order command.width before after octets)
ShowGives command (Err fault) = IsUnread fault
    ⊎ ((octets : List ℕ) × RefusesShow command.coding command.order command.width octets fault)

-- the ways in which a file is read of which a page of this form is wanted, if one is given, or perhaps of a likely width, by whether pages
-- are repaired and whether the first one is wanted
abbrev pub ways_in : Option PageForm → Option ℕ → Bool → Bool → Ways
ways_in None likely repair first = ways.Tried likely
ways_in (Some form) likely true first = ways.Any
ways_in (Some form) likely false true = ways.First form
ways_in (Some form) likely false false = ways.One form

-- how the file of `decode` is read, so that no more is than is wanted: where the form is given, by that, and its first page alone if that is
-- asked for; with `--repair` any rows are wanted
abbrev pub ways_of : DecodeCommand → Ways
ways_of command = ways_in command.form command.likely command.options.repair (nat_eq command.page 1)

-- the page of these octets with the number that is asked for was decoded in this form as the options ask, with this end
abbrev pub AnswersIn : DecodeCommand → PageForm → List ℕ → Result Bool ToolFault → Type 0
AnswersIn command form octets end = (later : List ℕ) × (page : PagePixels) × (told : List ℕ)
    × AnswersPage form command.options command.page octets later page told end

-- the page with the number that is asked for was decoded in the form that is given, or in which `identify` reads the file, with this end
abbrev pub IsAnswered : DecodeCommand → Result Bool ToolFault → Type 0
IsAnswered command end = (octets : List ℕ) × (form : PageForm) × IsFormOf command.form command.likely command.fine octets (Ok form)
    × AnswersIn command form octets end

-- nothing was decoded, since `identify` reads the file in no form, and this was said of it
abbrev pub IsUndecoded : DecodeCommand → Type 0
IsUndecoded command = (octets : List ℕ) × (end : FileEnd) × IsFormOf command.form command.likely command.fine octets (Err end)

-- the page was decoded, with the end that the engine says, or none is; or reading, writing or memory failed
abbrev pub DecodeGives : DecodeCommand → Result Completeness ToolFault → Type 0
DecodeGives command (Ok completeness) = ((complete : Bool) × (completeness ≡ completeness_of complete) × IsAnswered command (Ok complete))
    ⊎ ((completeness ≡ Lacking) × IsUndecoded command)
DecodeGives command (Err fault) = IsUnread fault ⊎ IsAnswered command (Err fault)

-- the file was identified as this
abbrev pub IsIdentified : Identity → Type 0
IsIdentified identity = (octets : List ℕ) × (before after : Option (List ℕ)) × Identifies octets before after identity

-- the file is known; or it is a page whose width isn't; or it is refused as one that no way reads
abbrev pub IdentifyGives : Result Completeness ToolFault → Type 0
IdentifyGives (Ok Whole) = IsIdentified Known
IdentifyGives (Ok Lacking) = IsIdentified Several
IdentifyGives (Err fault) = IsUnread fault ⊎ IsIdentified (Nothing fault)

-- ---- calls

-- what a call that left this ending is asked to be: normal for both stations, if that is wanted
abbrev pub as_wanted : Bool → Ending → Completeness
as_wanted normal ending = completeness_of (ended_normally ending || not normal)

-- Why the file of a call's document has none that a call carries: it can't be read, its octets are no images, or a page has a width that no
-- call has (26).
abbrev pub IsNoDocument : Bool → ToolFault → Type 0
IsNoDocument fine fault = IsOutside fault ⊎ ((images : List ℕ) × RefusesDriven fine images fault)

-- a call by a script was run, and left this ending
abbrev pub IsScripted : ScriptCommand → Ending → Type 0
IsScripted command ending = (script images : List ℕ) × (before after : Written)
    × LeavesCall command.options script images before after ending

-- no call by a script was run to its end
abbrev pub IsUnscripted : ScriptCommand → ToolFault → Type 0
IsUnscripted command fault = IsUnread fault
    ⊎ ((script images : List ℕ) × RefusesCall command.options.fine script images fault)

-- a call by a script was run and ended so, or it was refused
abbrev pub ScriptGives : ScriptCommand → Result Completeness ToolFault → Type 0
ScriptGives command (Ok completeness) = (ending : Ending) × IsScripted command ending × (completeness ≡ as_wanted command.normal ending)
ScriptGives command (Err fault) = IsUnscripted command fault

-- call 0 over the bad line was run, and left this ending
abbrev pub IsDriven : DriveCommand → Ending → Type 0
IsDriven command ending = (images : List ℕ) × (before after : Written) × LeavesDriven command.options command.line 0 images before after ending

-- so many calls over the bad line were run, and their lines and their table printed
abbrev pub AreDriven : DriveCommand → ℕ → Type 0
AreDriven command times = (images : List ℕ) × (before after : Option (List ℕ))
    × TellsMany command.options command.line times images before after

-- no call over the bad line was run to its end
abbrev pub IsUndriven : DriveCommand → ToolFault → Type 0
IsUndriven command fault = IsNoDocument command.options.fine fault

-- one call was run and ended so, or as many as are asked for; or they were refused
abbrev pub DriveGives : DriveCommand → Result Completeness ToolFault → Type 0
DriveGives command (Ok completeness) = ((command.times ≡ None)
    × (ending : Ending) × IsDriven command ending × (completeness ≡ as_wanted command.normal ending))
    ⊎ ((times : ℕ) × (command.times ≡ Some times) × AreDriven command times × (completeness ≡ Whole))
DriveGives command (Err fault) = IsUndriven command fault

-- ---- the version

-- the version was printed
abbrev pub VersionGives : Result Completeness ToolFault → Type 0
VersionGives (Ok completeness) = completeness ≡ Whole
VersionGives (Err fault) = IsOutside fault

-- what is written of each frame: records if they are asked for, otherwise lines, with words if those are
abbrev pub list_form : Bool → Bool → ListForm
list_form records words = if records then Records else (if words then Explained else Plain)
