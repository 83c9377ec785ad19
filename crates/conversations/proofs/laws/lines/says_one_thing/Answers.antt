use Rattle.conversations.proofs.OneLine.{says_one_thing}
use Rattle.conversations.proofs.laws.lines.says_one_thing.Goals as goal

pub returns : goal.returns
returns c = says_one_thing
