use Rattle.terminals.proofs.Seen.{refused_by_octets}
use Rattle.terminals.proofs.laws.refused_by_octets.Goals as goal

pub returns : goal.returns
returns c = refused_by_octets
