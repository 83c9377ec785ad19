-- What the check asks of `judged`.
use Rattle.std.proofs.Common.{ap, ◌∙◌, map, reverse}
use Rattle.referee.specs.History.{plain_said}
use Rattle.referee.specs.Rules.{verdicts}
use Rattle.call_logs.proofs.Reversed.{map_reverse}
use Rattle.call_logs.proofs.verdicts.judged.Goals as goal

pub returns : goal.returns
returns c =
    c.reverse-2.ensures.items ∙ ap reverse (c.in_ok-found.ensures ∙ ap verdicts (ap (map plain_said) (c.deref.ensures.value ∙ c.reverse.ensures.items)
    ∙ (map_reverse plain_said c.in_ok-said.said.items ∙ ap reverse c.in_ok-said.ensures)))
