-- What engines give, as the commands say it.
use Rattle.std.proofs.Common.{◌≡◌, ◌∙◌, ◌⊎◌, ◌+◌, ◌∷◌, ℕ, Bool, [], List, Option, Global, String, ap, refl, inl, inr, subst, sym, arith}
use Rattle.std.proofs.Common.{get_or, length}
use Rattle.std.proofs.lemmas.List.{get_or_at, length-append}
use Rattle.std.proofs.lemmas.Option.{none-some}
use Rattle.std.specs.Prelude.{Err, IfErr, IfOk, IsSome, MatchOption, None, Ok, OnOk, Result, Some}
use Rattle.captures.specs.Contents.{ReadsAll}
use Rattle.captures.specs.Frames.{ListsFrames}
use Rattle.calls.specs.BadLines.{LeavesAfter}
use Rattle.calls.specs.Calls.{IsBadScript, LeavesScript}
use Rattle.calls.specs.Scripts.{IsScript}
use Rattle.calls.specs.SentBits.{Written}
use Rattle.calls.specs.declared.script.Command.{Command}
use Rattle.faults.specs.Faults.{IsOutside}
use Rattle.faults.specs.declared.fault.ToolFault.{ToolFault}
use Rattle.faults.specs.declared.fault.ToolFault.TheVariants.{No}
use Rattle.line_sim.specs.declared.live.Ending.{Ending}
use Rattle.raster.specs.Pages.{PagePixels}
use Rattle.raster.specs.Pbm.{AreImages}
use Rattle.signals.specs.Agreement.{width_of_pixels}
use Rattle.stations.specs.CallerFields.{AreCallable}
use Rattle.command_files.specs.Bounds.{AreNoImages}
use Rattle.command_files.specs.Told.{IsFirstNotCallable}
use Rattle.command_files.specs.declared.context.Cause.{Cause}
use Rattle.command_files.specs.declared.command.Completeness.{Completeness}
use Rattle.commands.specs.Captured.{FramesGives, ListsOctets, ListsOrStores, StoresPagesOf, how_listed}
use Rattle.commands.specs.Runs.{IsDriven, IsNoDocument, IsScripted, IsUndriven, IsUnscripted}
use Rattle.commands.specs.declared.call.ScriptCommand.{ScriptCommand}
use Rattle.commands.specs.declared.call.drives.DriveCommand.{DriveCommand}
use Rattle.commands.specs.declared.frames.FramesCommand.{FramesCommand}

-- ---- the document of a call

-- octets that are no images
pub no_images : (fine : Bool) (fault : ToolFault) → IsOutside fault ⊎ ((octets : List ℕ) × AreNoImages fine octets fault)
    → IsNoDocument fine fault
no_images fine fault (inl outside) = inl outside
no_images fine fault (inr (octets, none)) = inr (octets, inr (inl none))

-- of a document with a page that no call carries
pub not_carried : (fine : Bool) (document : List PagePixels) (cause : Cause) → (images : List ℕ) × AreImages fine images document
    → IsFirstNotCallable document 0 cause → IsNoDocument fine (No 26)
not_carried fine document cause (images, read) is =
    let place : ℕ = length is.front in
    let size : length document ≡ place + length (is.page ∷ is.rest) = ap length is.split ∙ length-append is.front (is.page ∷ is.rest) in
    let there : get_or document place is.page ≡ is.page =
    ap (λ pages. get_or pages place is.page) is.split ∙ get_or_at is.front is.page is.rest is.page place refl in
    let wide : ¬ AreCallable document = λ all. (
    let some : IsSome (width_of_pixels is.page.width) =
    subst (λ (page : PagePixels). IsSome (width_of_pixels page.width)) there (all place is.page (omega (arith, size))) in
    let none = is.refused in
    absurd (cc)) in
    inr (images, inr (inr (document, read, wide, refl)))

-- ---- a call by a script

-- a script that is refused before its document is read
pub refused_script : (command : ScriptCommand) (script : List ℕ) (fault : ToolFault) → IsBadScript script fault
    → IsUnscripted command fault
refused_script command script fault bad = inr (script, [], inr (inl bad))

-- a script whose document is refused
pub no_document : (command : ScriptCommand) (script : List ℕ) (fault : ToolFault) → (commands : List Command) × IsScript script commands
    → IsNoDocument command.options.fine fault → IsUnscripted command fault
no_document command script fault said (inl outside) = inl (inl outside)
no_document command script fault said (inr (images, inl outside)) = inl (inl outside)
no_document command script fault said (inr (images, inr (inl (first, none, is)))) =
    inr (script, images, inr (inr (inl (said, first, none, is))))
no_document command script fault said (inr (images, inr (inr (document, read, wide, is)))) =
    inr (script, images, inr (inr (inr (said, document, read, wide, is))))

-- a call that wasn't run to its end, of a script that was checked and is read again
pub unscripted : (command : ScriptCommand) (checked script : List ℕ) (document : List PagePixels) (fault : ToolFault)
    → (commands : List Command) × IsScript checked commands → (images : List ℕ) × AreImages command.options.fine images document
    → IsOutside fault ⊎ (IsBadScript script fault ⊎ (¬ AreCallable document × (fault ≡ No 26))) → IsUnscripted command fault
unscripted command checked script document fault said read (inl outside) = inl (inl outside)
unscripted command checked script document fault said read (inr (inl bad)) = refused_script command script fault bad
unscripted command checked script document fault said (images, read) (inr (inr (wide, is))) =
    inr (checked, images, inr (inr (inr (said, document, read, wide, is))))

-- a call that was
pub scripted : (command : ScriptCommand) (script : List ℕ) (document : List PagePixels) (before after : Written) (ending : Ending)
    → (images : List ℕ) × AreImages command.options.fine images document
    → LeavesScript command.options document script before after ending → IsScripted command ending
scripted command script document before after ending (images, read) (commands, said, (told, left)) = (
  script,
  images,
  before,
  after,
  (record { commands = commands; said = said; document = document; read = read; told = told }, left),
)

-- ---- calls over a bad line

-- calls that weren't run to their end
pub undriven : (command : DriveCommand) (document : List PagePixels) (fault : ToolFault)
    → (images : List ℕ) × AreImages command.options.fine images document
    → IsOutside fault ⊎ (¬ AreCallable document × (fault ≡ No 26)) → IsUndriven command fault
undriven command document fault read (inl outside) = inl outside
undriven command document fault (images, read) (inr (wide, is)) = inr (images, inr (inr (document, read, wide, is)))

-- one call
pub driven : (command : DriveCommand) (document : List PagePixels) (before after : Written) (ending : Ending)
    → (images : List ℕ) × AreImages command.options.fine images document
    → LeavesAfter command.options command.line 0 document before after ending → IsDriven command ending
driven command document before after ending (images, read) (told, left) =
    (images, before, after, (record { document = document; read = read; told = told }, left))

-- ---- frames

-- frames of a line that was read were listed, and with them something else was done
pub found_in : (command : FramesCommand) (result : Result Bool ToolFault) (from to before after : Option (List ℕ))
    (Stored : List ℕ → Type 0)
    → IfOk result (λ worth. ReadsAll from to (λ octets. ListsFrames (how_listed command) octets before after worth × Stored octets))
    → OnOk result ((octets : List ℕ) × ListsOctets command octets × Stored octets)
found_in command (Ok worth) from to before after Stored (octets, consumes, end, given) =
    (octets, (before, after, worth, given.0), given.1)
found_in command (Err fault) from to before after Stored given = tt

-- what is seen of an option is there, so the option is
pub is_given : {X Y : Type 0} (P : X → Type 0) (given : Option X) (seen : Option Y) (it : Y) → MatchOption given (seen ≡ None) P
    → seen ≡ Some it → (kept : X) × (given ≡ Some kept)
is_given P (Some kept) seen it shows is = (kept, refl)
is_given P None seen it none is = absurd (none-some it (sym none ∙ is))

-- pages were stored in the folder that is given, or that failed
pub stores_given : (command : FramesCommand) (given : Result Completeness ToolFault)
    → ((folder : String Global) × (command.pages ≡ Some folder))
    → IfOk given (λ completeness. (octets : List ℕ) × StoresPagesOf command octets completeness) → IfErr given IsOutside
    → FramesGives command given
stores_given command (Ok completeness) folder stores fault =
    (stores.0, subst (λ pages. ListsOrStores command pages stores.0 completeness) (sym folder.1) stores.1)
stores_given command (Err fault) folder stores outside = outside
