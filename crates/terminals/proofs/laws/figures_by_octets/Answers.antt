-- What the check asks of `figures_by_octets`.
use Rattle.terminals.proofs.Counted.{figures_by_octets, pages_count_as_nothing}
use Rattle.terminals.proofs.laws.figures_by_octets.Goals as goal

pub returns-clause-octets : goal.returns-clause-octets
returns-clause-octets c = figures_by_octets

pub returns-clause-pages : goal.returns-clause-pages
returns-clause-pages c = pages_count_as_nothing
