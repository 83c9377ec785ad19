use Rattle.hdlc.proofs.Examples.{are_examples as law}
use Rattle.hdlc.proofs.laws.examples.Goals as goal

pub returns : goal.returns
returns c = law
