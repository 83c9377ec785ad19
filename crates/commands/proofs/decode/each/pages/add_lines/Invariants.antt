-- What holds in the loop of `add_lines`: the lines that are left complete what is appended.
use Rattle.std.proofs.Common.{◌≡◌, ◌++◌, length}
use denote.Shadow.{shadow}
use denote.Text.{Utf8}
use Rattle.commands.specs.Pages.{with_front}
use Rattle.commands.proofs.decode.each.pages.add_lines.Given as goal

abbrev pub invariant-loop-line : goal.invariant-loop-line
invariant-loop-line l =
    shadow (Utf8 l.rest) × (l.lines.items ++ with_front l.front l.rest ≡ l.fn.lines.items ++ with_front l.front l.text)

abbrev pub decreases-loop-line : goal.decreases-loop-line
decreases-loop-line l = length l.rest
