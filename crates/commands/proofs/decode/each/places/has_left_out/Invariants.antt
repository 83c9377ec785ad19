-- What holds in the loop of `has_left_out`: none of the parts so far is left out, so that those that are left decide.
use Rattle.std.proofs.Common.{◌≡◌, length}
use Rattle.std.specs.Path.{components_remaining}
use Rattle.commands.specs.Places.{has_left_out, have_left_out}
use Rattle.commands.proofs.decode.each.places.has_left_out.Given as goal

abbrev pub invariant-loop-part : goal.invariant-loop-part
invariant-loop-part l = have_left_out (components_remaining l.parts) ≡ has_left_out l.fn.name

abbrev pub decreases-loop-part : goal.decreases-loop-part
decreases-loop-part l = length (components_remaining l.parts)
