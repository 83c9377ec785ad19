-- What holds in the loop of `number_from`, and how many turns it takes at most.
use Rattle.std.proofs.Common.{◌≡◌, length}
use Rattle.command_files.specs.SystemTexts.{number_from}
use Rattle.command_files.proofs.files.system_text.number_from.Given as goal

abbrev pub invariant-loop-left : goal.invariant-loop-left
invariant-loop-left l = number_from l.base l.number l.left ≡ number_from l.base l.before l.octets

abbrev pub decreases-loop-left : goal.decreases-loop-left
decreases-loop-left l = length l.left
