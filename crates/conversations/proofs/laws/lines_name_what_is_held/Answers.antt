use Rattle.conversations.proofs.LineEffects.{names_what_is_held}
use Rattle.conversations.proofs.laws.lines_name_what_is_held.Goals as goal

pub returns : goal.returns
returns c = names_what_is_held
