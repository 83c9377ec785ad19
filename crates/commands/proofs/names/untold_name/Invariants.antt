-- What holds in the loop of `untold_name`: what the octets that are left show completes it.
use Rattle.std.proofs.Common.{◌≡◌, ◌++◌, drop}
use Rattle.std.specs.Prelude.{flat_map}
use Rattle.commands.specs.Names.{as_octet, untold_name}
use Rattle.commands.proofs.names.untold_name.Given as goal

abbrev pub invariant-loop-octet : goal.invariant-loop-octet
invariant-loop-octet l = l.name.items ++ flat_map as_octet (drop l.octet-index l.octets) ≡ untold_name l.octets
