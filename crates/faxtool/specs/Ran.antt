-- What the program ends with, by what can come of the command that ran.
use Rattle.std.specs.Prelude.{◌⊎◌, ℕ, [], Bool, List, Result, Ok, Err, if◌then◌else◌, max}
use Rattle.command_files.specs.Apart.{NamedFile}
use Rattle.command_files.specs.declared.files.apart.NotApart.{NotApart}
use Rattle.commands.specs.Captured.{CapturesGives, FramesGives}
use Rattle.commands.specs.Each.{EachGives}
use Rattle.commands.specs.Files.{captures_files, code_files, decode_files, drive_files, each_files, frames_files, identify_files}
use Rattle.commands.specs.Files.{script_files, several_files, show_files}
use Rattle.commands.specs.Judge.{JudgeGives, judge_files}
use Rattle.commands.specs.Runs.{CodeGives, DecodeGives, DriveGives, IdentifyGives, ScriptGives, ShowGives, VersionGives}
use Rattle.commands.specs.SeveralLines.{SeveralGives}
use Rattle.station_commands.specs.Files.{answer_files, dial_files}
use Rattle.station_commands.specs.Talks.{AnswerGives, DialGives}
use Rattle.faxtool.specs.Apart.{AreNamedApart, SaysNotApart}
use Rattle.faxtool.specs.declared.command.Command.{Command}
use Rattle.faxtool.specs.declared.command.Command.TheVariants.{Answer, Call, Captures, Code, Decode, Dial, Drive, Each, Frames, Identify}
use Rattle.faxtool.specs.declared.command.Command.TheVariants.{Judge, Several, Show, Version}
use Rattle.command_files.specs.declared.command.Completeness.{Completeness}
use Rattle.command_files.specs.declared.command.Completeness.TheVariants.{Lacking, Whole}
use Rattle.faults.specs.Faults.{IsOutside}
use Rattle.faults.specs.declared.fault.ToolFault.{ToolFault}
use Rattle.faxtool.specs.declared.args.words.Outcome.{Outcome}
use Rattle.faxtool.specs.declared.args.words.Outcome.TheVariants.{Done, Fault, Incomplete, Words}

-- What the program ends with for what can come of a command with these files: it ran, and they are apart; or they aren't, and it didn't run.
-- Before it runs memory can be refused.
abbrev pub Gave : List NamedFile → (Result Completeness ToolFault → Type 0) → Outcome → Type 0
Gave files gives Done = AreNamedApart files × gives (Ok Whole)
Gave files gives Incomplete = ((why : NotApart) × SaysNotApart files why) ⊎ (AreNamedApart files × gives (Ok Lacking))
Gave files gives (Fault fault) = IsOutside fault ⊎ (AreNamedApart files × gives (Err fault))
Gave files gives (Words error) = ⊥

-- the command ran, and no other
abbrev pub Ran : Command → Outcome → Type 0
Ran (Code command) outcome = Gave (code_files command) (CodeGives command) outcome
Ran (Show command) outcome = Gave (show_files command) (ShowGives command) outcome
Ran (Decode command) outcome = Gave (decode_files command) (DecodeGives command) outcome
Ran (Each command) outcome = Gave (each_files command) (EachGives command) outcome
Ran (Frames command) outcome = Gave (frames_files command) (FramesGives command) outcome
Ran (Captures command) outcome = Gave (captures_files command) (CapturesGives command) outcome
Ran (Identify command) outcome = Gave (identify_files command) IdentifyGives outcome
Ran (Several command) outcome = Gave (several_files command) (SeveralGives command) outcome
Ran (Call command) outcome = Gave (script_files command) (ScriptGives command) outcome
Ran (Drive command) outcome = Gave (drive_files command) (DriveGives command) outcome
Ran (Judge command) outcome = Gave (judge_files command) (JudgeGives command) outcome
Ran (Answer command) outcome = Gave (answer_files command) (AnswerGives command) outcome
Ran (Dial command) outcome = Gave (dial_files command) (DialGives command) outcome
Ran (Version command) outcome = Gave [] VersionGives outcome

-- the exit status, if there may have been no room for something on standard error: then at least 1
abbrev pub status_told : ℕ → Bool → ℕ
status_told status is_cut = if is_cut then max status 1 else status
