use Rattle.conversations.proofs.Expecting.{expects_what_is_heard}
use Rattle.conversations.proofs.laws.hears_are_heard.Goals as goal

pub returns : goal.returns
returns c = expects_what_is_heard
