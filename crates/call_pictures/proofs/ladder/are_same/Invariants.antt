-- What holds in the loop of `are_same`.
use Rattle.std.proofs.Common.{◌≡◌, take}
use Rattle.call_pictures.proofs.ladder.are_same.Given as goal

abbrev pub invariant-loop-place : goal.invariant-loop-place
invariant-loop-place l = take l.place l.rows ≡ take l.place l.others
