-- What a fault is in words, with what the program alone knows of it.
use Rattle.command_files.specs.declared.context.Cause.TheVariants.{Taken}
use Rattle.std.specs.Prelude.{◌||◌, ℕ, ◌≡◌, ◌+◌, ◌-◌, ◌^◌, ◌++◌, ◌∷◌, Bool, true, false, if◌then◌else◌, nat_eq, List, Option, Some, None}
use Rattle.std.specs.Prelude.{All, String, codes, find, is_some, length, min, option_map, string_bytes, unwrap_or}
use Rattle.raster.specs.Pages.{PagePixels}
use Rattle.signals.specs.Agreement.{width_of_pixels}
use Rattle.std.specs.Str.{bytes_eq}
use Rattle.std.specs.declared.io.ErrorKind.{ErrorKind}
use Rattle.faults.specs.declared.fault.ToolFault.{ToolFault}
use Rattle.faults.specs.declared.fault.ToolFault.TheVariants.{AtBit, AtLine, No}
use Rattle.command_files.specs.declared.command.Names.{Names}
use Rattle.command_files.specs.declared.context.Part.{Part}
use Rattle.command_files.specs.declared.context.Part.TheVariants.{Answerer, Bits, Diagram, Input, Output, Printed, Script, Trace}
use Rattle.std.specs.Fmt.{decimal}
use Rattle.faults.specs.Explanations.{explained, name_text, reason_words}
use Rattle.faults.specs.declared.explain.Explained.{Explained}
use Rattle.command_files.specs.declared.context.TrialStep.{TrialStep}
use Rattle.command_files.specs.declared.context.TrialStep.TheVariants.{Make, Name, Remove, Sync, SyncFolder, Write}
use Rattle.command_files.specs.declared.context.Cause.{Cause}
use Rattle.command_files.specs.declared.context.Cause.TheVariants.{EmptyRuns, FailedTrial, FewerPages, Listed, NextPage, NoEofb, NotCallable, RowsOf, Terminal, TooLong}

-- The file that a fault is about: the script for a fault at one of its lines; the file that failed, if one did, for `Io` (8); the file whose
-- reading was given up, if one was, for `NoMemory` (9); and the input for any other fault, or where no file is known.
abbrev pub part_of : ToolFault → Option (Part × ErrorKind) → Option Part → Part
part_of (AtLine line) failed unread = Script
part_of (AtBit number place) failed unread = Input
part_of (No number) failed unread = if nat_eq number 8 || nat_eq number 32 then unwrap_or (option_map (λ known. known.0) failed) Input
    else if nat_eq number 9 then unwrap_or unread Input else Input

-- a name is one of these
abbrev pub is_named_in : {Z : Type 0} → List ℕ → List (String Z) → Bool
is_named_in name names = is_some (find (λ one. bytes_eq (string_bytes one) name) names)

-- a file's name, or that of the input
abbrev pub name_or : {A : Type 0} → (A → List ℕ) → Option A → List ℕ → List ℕ
name_or text None input = input
name_or text (Some name) input = text name

-- the name that a command has for a file, `-` for what is printed; that of its input if it has no such file
abbrev pub name_in : Names → Part → List ℕ
name_in names Input = names.input.now
name_in names Answerer = name_or (λ name. name.now) names.answerer names.input.now
name_in names Script = name_or (λ name. name.now) names.script names.input.now
name_in names Output = name_or (λ name. name.now) names.output names.input.now
name_in names Bits = name_or (λ name. name.now) names.bits names.input.now
name_in names Diagram = name_or (λ name. name.now) names.diagram names.input.now
name_in names Trace = name_or (λ name. name.now) names.trace names.input.now
name_in names Printed = codes "-"

-- a file that is written has standard output where its name is `-`
abbrev pub is_output : Part → Bool
is_output Output = true
is_output Diagram = true
is_output Printed = true
is_output part = false

-- a name as messages have it: what `-` stands for in its words
abbrev pub name_shown : List ℕ → Part → List ℕ
name_shown name part = if bytes_eq name (codes "-") then (if is_output part then codes "standard output" else codes "standard input")
    else name

-- what a trial of a folder couldn't do there
abbrev pub step_words : TrialStep → List ℕ
step_words Make = codes "no new file can be made in it"
step_words Write = codes "a new file in it can't be written"
step_words Sync = codes "a new file in it can't be synced"
step_words Name = codes "a new file in it can't get its name"
step_words SyncFolder = codes "the folder can't be synced"
step_words Remove = codes "a file in it can't be removed"

-- the words of a fault with this cause
abbrev pub told : Explained → Option Cause → List ℕ
told words None = explained words.fault words.known
told words (Some Terminal) = name_text words.known.file.now ++ codes " is a terminal"
told words (Some (TooLong most)) =
    name_text words.known.file.now ++ (codes ": it has more octets than are read of such a file, " ++ decimal most)
told words (Some (Taken file)) =
    name_text words.known.file.now ++ (codes "/" ++ (file.now ++ (codes ": " ++ reason_words words.known.reason)))
told words (Some (NotCallable page width)) = name_text words.known.file.now ++ (codes ": page " ++ (decimal page ++ (codes " is "
    ++ (decimal width ++ codes " pixels wide, and a call carries 1728, 2048 or 2432"))))
told words (Some (FewerPages count from)) = name_text words.known.file.now ++ (codes ": it has pages up to " ++ (decimal count
    ++ (codes ", and --from is " ++ decimal from)))
told words (Some (RowsOf width)) = explained words.fault words.known ++ (codes "; each row ends after " ++ (decimal width
    ++ (codes " pixels: try --width " ++ decimal width)))
told words (Some EmptyRuns) = explained words.fault words.known
    ++ codes "; runs of 0 pixels come before the row's EOL: decode --repair reads it"
told words (Some (NextPage octet)) = explained words.fault words.known
    ++ (codes "; without EOFB nothing marks a page's end: another page may begin at octet " ++ decimal octet)
told words (Some NoEofb) = explained words.fault words.known
    ++ codes "; the file doesn't end with EOFB: nothing marks a page's end then, and another page may begin before this bit"
told words (Some (FailedTrial step)) = name_text words.known.file.now ++ (codes ": " ++ (step_words step ++ (codes ": "
    ++ reason_words words.known.reason)))
told words (Some Listed) = name_text words.known.file.now ++ codes ": the list of names is read from it"

-- ---- pages that no call carries

-- a call can carry the page: it is 1,728, 2,048 or 2,432 pixels wide
abbrev pub IsCallable : PagePixels → Type 0
IsCallable page = is_some (width_of_pixels page.width) ≡ true

-- The first of these pages that no call can carry: all before it can be carried. Its number, from 1, counts the pages that come before these
-- too, and stays at 2^64 - 1.
pub record IsFirstNotCallable (pages : List PagePixels) (before : ℕ) (cause : Cause) : Type 0 where
  pub front : List PagePixels
  pub page : PagePixels
  pub rest : List PagePixels
  pub split : pages ≡ front ++ page ∷ rest
  pub carried : All IsCallable front
  pub refused : is_some (width_of_pixels page.width) ≡ false
  pub said : cause ≡ NotCallable (min (2 ^ 64 - 1) (before + length front + 1)) page.width
