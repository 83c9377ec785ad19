-- What holds in the loop of `height`.
use Rattle.std.proofs.Common.{◌≡◌, ◌+◌, drop}
use Rattle.call_pictures.specs.Pictures.{height_of}
use Rattle.call_pictures.proofs.picture.height.Given as goal

abbrev pub invariant-loop-round : goal.invariant-loop-round
invariant-loop-round l = l.height + height_of (drop l.round-index l.rounds) ≡ height_of l.rounds
