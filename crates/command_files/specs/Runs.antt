-- What all commands answer.
use Rattle.std.specs.Prelude.{Bool, Result, if◌then◌else◌}
use Rattle.faults.specs.declared.fault.ToolFault.{ToolFault}
use Rattle.command_files.specs.declared.command.Completeness.{Completeness}
use Rattle.command_files.specs.declared.command.Completeness.TheVariants.{Lacking, Whole}

-- all was done, or something is lacking
abbrev pub completeness_of : Bool → Completeness
completeness_of complete = if complete then Whole else Lacking

-- what comes of a run is among what can come of its command
abbrev pub Comes : (Result Completeness ToolFault → Type 0) → Result Completeness ToolFault → Type 0
Comes gives given = gives given
