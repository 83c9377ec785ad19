-- What holds in the loop of `number_at`, and how many turns it takes at most.
use Rattle.std.proofs.Common.{◌≡◌, length}
use Rattle.command_files.specs.SystemTexts.{number_at}
use Rattle.command_files.proofs.files.system_text.number_at.Given as goal

abbrev pub invariant-loop-left : goal.invariant-loop-left
invariant-loop-left l = number_at l.base l.left ≡ number_at l.base l.octets

abbrev pub decreases-loop-left : goal.decreases-loop-left
decreases-loop-left l = length l.left
