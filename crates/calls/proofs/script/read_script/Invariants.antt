-- What holds in the loop of `read_script`.
use Rattle.std.proofs.Common.{length}
use Rattle.calls.proofs.ScriptLines.{ReadSoFar}
use Rattle.calls.proofs.script.read_script.Given as goal

abbrev pub invariant-loop-line : goal.invariant-loop-line
invariant-loop-line l = ReadSoFar l.text l.rest l.commands.items l.number

abbrev pub decreases-loop-line : goal.decreases-loop-line
decreases-loop-line l = length l.rest
