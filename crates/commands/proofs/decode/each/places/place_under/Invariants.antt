-- What holds in the loop of `place_under`: the parts that are left complete the place.
use Rattle.std.proofs.Common.{◌≡◌, ◌++◌, string_bytes, length}
use Rattle.std.specs.Path.{components_remaining}
use Rattle.std.specs.Prelude.{flat_map}
use Rattle.commands.specs.Places.{part_text, place_under}
use Rattle.commands.proofs.decode.each.places.place_under.Given as goal

abbrev pub invariant-loop-part : goal.invariant-loop-part
invariant-loop-part l = string_bytes l.place ++ flat_map part_text (components_remaining l.parts) ≡ place_under l.folder l.fn.name

abbrev pub decreases-loop-part : goal.decreases-loop-part
decreases-loop-part l = length (components_remaining l.parts)
