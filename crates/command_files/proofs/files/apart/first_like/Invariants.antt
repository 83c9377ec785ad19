-- What holds in the loop of `first_like`, and how many turns it takes at most.
use Rattle.std.proofs.Common.{◌≡◌, ◌++◌, List, length}
use Rattle.command_files.specs.Apart.{IsApartFrom}
use Rattle.command_files.specs.declared.files.apart.CommandFile.{CommandFile}
use Rattle.command_files.proofs.files.apart.first_like.Given as goal

abbrev pub invariant-loop-left : goal.invariant-loop-left
invariant-loop-left l = (before : List CommandFile) × (l.files ≡ before ++ l.left) × IsApartFrom l.file before

abbrev pub decreases-loop-left : goal.decreases-loop-left
decreases-loop-left l = length l.left
