use Rattle.std.proofs.Common.{refl}
use Rattle.std.specs.Fmt.{digits}
use Rattle.conversations.proofs.laws.lines.words_by_octets.Goals as goal

pub returns-clause-ends : goal.returns-clause-ends
unfolding digits
returns-clause-ends c = record { ended = λ why on. refl; goes_on = λ on. refl; waits = refl; until = refl }
