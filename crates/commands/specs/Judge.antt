-- What can come of the command that judges a call by its log.
use Rattle.std.specs.Prelude.{ℕ, ◌≡◌, ◌&&◌, ◌||◌, ◌∷◌, [], Bool, List, Option, Result, Ok, Err, nat_eq, not}
use Rattle.call_logs.specs.Reports.{JudgesLog}
use Rattle.call_logs.specs.declared.tally.Tally.{Tally}
use Rattle.captures.specs.declared.frames.ListForm.{ListForm}
use Rattle.command_files.specs.Apart.{NamedFile, printed}
use Rattle.command_files.specs.Runs.{completeness_of}
use Rattle.command_files.specs.declared.command.Completeness.{Completeness}
use Rattle.command_files.specs.declared.command.Completeness.TheVariants.{Lacking}
use Rattle.faults.specs.Faults.{IsUnread}
use Rattle.faults.specs.declared.fault.ToolFault.{ToolFault}
use Rattle.commands.specs.declared.judge.JudgeCommand.{JudgeCommand}

-- what `judge` prints once the log is read whole
abbrev pub judge_files : JudgeCommand → List NamedFile
judge_files command = printed ∷ []

-- some log was read, and judged so
abbrev pub IsJudged : ListForm → Result Tally ℕ → Type 0
IsJudged form judged = (octets : List ℕ) × (before after : Option (List ℕ)) × JudgesLog form octets before after judged

-- no rule is broken; if that is asked for, also none that can be read otherwise
abbrev pub is_kept : Bool → Tally → Bool
is_kept strict tally = nat_eq tally.broken 0 && (not strict || nat_eq tally.readings 0)

-- what a log comes to: whole if no rule is broken; one with a line that is none of a log is lacking
abbrev pub judged_as : Bool → Result Tally ℕ → Completeness
judged_as strict (Ok tally) = completeness_of (is_kept strict tally)
judged_as strict (Err line) = Lacking

-- a log was judged, and its end tells whether a rule is broken; or it can't be read
abbrev pub JudgeGives : JudgeCommand → Result Completeness ToolFault → Type 0
JudgeGives command (Ok completeness) = (judged : Result Tally ℕ) × IsJudged command.form judged × (completeness ≡ judged_as command.strict judged)
JudgeGives command (Err fault) = IsUnread fault
