-- What the check asks of `say_of`.
use Rattle.commands.proofs.identify.several.say_of.Goals as goal

pub returns-clause-said : goal.returns-clause-said
returns-clause-said c = (c.as_slice.result.now, c.in_ok-said.ensures.said)
