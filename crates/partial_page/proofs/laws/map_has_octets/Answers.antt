use Rattle.partial_page.proofs.NumberLemmas.{maps-by-octets}
use Rattle.partial_page.proofs.laws.map_has_octets.Goals as goal

pub returns : goal.returns
returns c = maps-by-octets
