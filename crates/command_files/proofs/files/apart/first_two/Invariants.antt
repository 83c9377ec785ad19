-- What holds in the loop of `first_two`, and how many turns it takes at most.
use Rattle.std.proofs.Common.{◌≡◌, ◌++◌, List, length}
use Rattle.command_files.specs.Apart.{AreApartBefore}
use Rattle.command_files.specs.declared.files.apart.CommandFile.{CommandFile}
use Rattle.command_files.proofs.files.apart.first_two.Given as goal

abbrev pub invariant-loop-left : goal.invariant-loop-left
invariant-loop-left l = (before : List CommandFile) × (l.files ≡ before ++ l.left) × AreApartBefore before l.left

abbrev pub decreases-loop-left : goal.decreases-loop-left
decreases-loop-left l = length l.left
