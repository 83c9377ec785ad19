-- What holds in the loop of `first_not_callable`, and how many turns it takes at most.
use Rattle.std.proofs.Common.{◌≡◌, ◌+◌, ◌-◌, ◌^◌, ◌++◌, All, List, length, min}
use Rattle.command_files.specs.Told.{IsCallable}
use Rattle.raster.specs.Pages.{PagePixels}
use Rattle.command_files.proofs.context.first_not_callable.Given as goal

abbrev pub invariant-loop-left : goal.invariant-loop-left
invariant-loop-left l = (front : List PagePixels) × (l.pages ≡ front ++ l.left) × All IsCallable front
    × (l.number ≡ min (2 ^ 64 - 1) (l.before + length front))

abbrev pub decreases-loop-left : goal.decreases-loop-left
decreases-loop-left l = length l.left
