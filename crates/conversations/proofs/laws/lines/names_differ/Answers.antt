use Rattle.conversations.proofs.OneLine.{channels_have_names, kinds_have_names}
use Rattle.conversations.proofs.laws.lines.names_differ.Goals as goal

pub returns-clause-channels : goal.returns-clause-channels
returns-clause-channels c = channels_have_names

pub returns-clause-kinds : goal.returns-clause-kinds
returns-clause-kinds c = kinds_have_names
