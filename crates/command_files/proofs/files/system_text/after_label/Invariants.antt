-- What holds in the loop of `after_label`, and how many turns it takes at most.
use Rattle.std.proofs.Common.{◌≡◌, length}
use Rattle.command_files.specs.SystemTexts.{after_label}
use Rattle.command_files.proofs.files.system_text.after_label.Given as goal

abbrev pub invariant-loop-left : goal.invariant-loop-left
invariant-loop-left l = after_label l.label l.left ≡ after_label l.label l.octets

abbrev pub decreases-loop-left : goal.decreases-loop-left
decreases-loop-left l = length l.left
