-- What holds in the loop of `escaped`: what the octets that are left show completes it.
use Rattle.std.proofs.Common.{◌≡◌, ◌++◌, drop}
use Rattle.commands.specs.Names.{escaped_after}
use Rattle.commands.proofs.names.escaped.Given as goal

abbrev pub invariant-loop-octet : goal.invariant-loop-octet
invariant-loop-octet l = l.shown.items ++ escaped_after l.before (drop l.octet-index l.octet-items) ≡ escaped_after 0 l.text
