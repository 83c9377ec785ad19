-- What holds in the loop of `left_out_parts`: the parts so far, and then those that are left.
use Rattle.std.proofs.Common.{◌≡◌, ◌++◌, length, map}
use Rattle.std.specs.Path.{components_remaining}
use Rattle.serde_json.specs.View.{view}
use Rattle.std.specs.Prelude.{flat_map}
use Rattle.commands.specs.Places.{left_out_part, left_out_words}
use Rattle.commands.proofs.decode.each.places.left_out_parts.Given as goal

abbrev pub invariant-loop-part : goal.invariant-loop-part
invariant-loop-part l = map view l.left_out.items ++ flat_map left_out_part (components_remaining l.parts) ≡ left_out_words l.fn.name

abbrev pub decreases-loop-part : goal.decreases-loop-part
decreases-loop-part l = length (components_remaining l.parts)
