use Rattle.joined_terminals.proofs.DrivenSafe.{conversations_are_safe}
use Rattle.joined_terminals.proofs.laws.conversations_are_safe.Goals as goal

pub returns : goal.returns
returns c = conversations_are_safe c.terminals_are_safe.ensures.safe
