-- What the check asks of `used_by_octets`.
use Rattle.terminals.proofs.Seen.{used_by_octets, used_is_brought}
use Rattle.terminals.proofs.laws.used_by_octets.Goals as goal

pub returns-clause-octets : goal.returns-clause-octets
returns-clause-octets c = used_by_octets

pub returns-clause-brought : goal.returns-clause-brought
returns-clause-brought c = used_is_brought
