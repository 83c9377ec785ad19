-- Which files of each command have to be apart, in the order in which they are added: those that it writes, and those that it still reads
-- while it writes. A file that is read whole before an output is opened isn't among them: the output may take its place.
use Rattle.std.specs.Prelude.{ℕ, ◌++◌, ◌∷◌, [], List, Option, Some, None, String, codes, flat_map, option_map, string_bytes}
use Rattle.command_files.specs.Apart.{NamedFile, bits_in, may_be_written, printed, read_as, written_as}
use Rattle.commands.specs.declared.call.CallFiles.{CallFiles}
use Rattle.commands.specs.declared.call.ScriptCommand.{ScriptCommand}
use Rattle.commands.specs.declared.call.drives.DriveCommand.{DriveCommand}
use Rattle.commands.specs.declared.code.CodeCommand.{CodeCommand}
use Rattle.commands.specs.declared.decode.DecodeCommand.{DecodeCommand}
use Rattle.commands.specs.declared.decode.each.EachCommand.{EachCommand}
use Rattle.commands.specs.declared.decode.each.listed.NameList.{NameList}
use Rattle.commands.specs.declared.frames.FramesCommand.{FramesCommand}
use Rattle.commands.specs.declared.frames.two_captures.CapturesCommand.{CapturesCommand}
use Rattle.commands.specs.declared.identify.IdentifyCommand.{IdentifyCommand}
use Rattle.commands.specs.declared.identify.several.SeveralCommand.{SeveralCommand}
use Rattle.commands.specs.declared.show.ShowCommand.{ShowCommand}

-- the file that `code` writes: the image is read whole before
abbrev pub code_files : CodeCommand → List NamedFile
code_files command = written_as (codes "OUT") (string_bytes command.output) ∷ []

-- the file that `decode` writes: the coded page is read whole before
abbrev pub decode_files : DecodeCommand → List NamedFile
decode_files command = written_as (codes "OUT") (string_bytes command.output) ∷ []

-- what `show` prints once its file is read whole
abbrev pub show_files : ShowCommand → List NamedFile
show_files command = printed ∷ []

-- the files of `frames`, which prints while it reads
abbrev pub frames_files : FramesCommand → List NamedFile
frames_files command = read_as (codes "FILE") (string_bytes command.input) ∷ printed ∷ []

-- what `identify` prints once its file is read whole
abbrev pub identify_files : IdentifyCommand → List NamedFile
identify_files command = printed ∷ []

-- a file that is identified
abbrev pub file_read : {Z : Type 0} → String Z → List NamedFile
file_read name = read_as (codes "FILE") (string_bytes name) ∷ []

-- the files of `identify` with several: it prints a line of one before it reads the next
abbrev pub several_files : SeveralCommand → List NamedFile
several_files command = flat_map file_read command.files.items ++ printed ∷ []

-- the picture of `frames` with two captures: both are read whole before
abbrev pub captures_files : CapturesCommand → List NamedFile
captures_files command = written_as (codes "--diagram") (string_bytes command.diagram) ∷ []

-- the list of the names of more files, if there is one
abbrev pub list_read : Option NameList → List NamedFile
list_read None = []
list_read (Some list) = read_as (codes "--from") (string_bytes list.file) ∷ []

-- the files of `decode --each`: its images aren't among them, since none takes the place of a file
abbrev pub each_files : EachCommand → List NamedFile
each_files command = flat_map file_read command.files.items ++ list_read command.list

-- the files that a call writes: those of its pages, of its picture and of its octets if they are named, and what is printed; its script and
-- its document are read whole before
abbrev pub call_files : Option (List ℕ) → Option (List ℕ) → Option (List ℕ) → List NamedFile
call_files out diagram bits =
    may_be_written (codes "--out") out ++ (may_be_written (codes "--diagram") diagram ++ (bits_in bits ++ printed ∷ []))

-- the files of a call, by their names
abbrev pub named_in : CallFiles → List NamedFile
named_in files = call_files (option_map (λ name. name.now) files.out) (option_map (λ name. name.now) files.diagram)
    (option_map (λ name. name.now) files.bits)

-- the files of a call by a script
abbrev pub script_files : ScriptCommand → List NamedFile
script_files command = call_files (option_map string_bytes command.out) (option_map string_bytes command.diagram)
    (option_map string_bytes command.bits)

-- the files of a call over a bad line
abbrev pub drive_files : DriveCommand → List NamedFile
drive_files command = call_files (option_map string_bytes command.out) (option_map string_bytes command.diagram)
    (option_map string_bytes command.bits)
