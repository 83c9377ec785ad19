use Rattle.raster.proofs.WordLemmas.{highest_from, highest_past}
use Rattle.raster.proofs.words.octet_or_zero.Goals as goal

pub returns-then-at-octets : goal.returns-then-at-octets
returns-then-at-octets c = highest_from c.args.order c.args.octets.now c.args.at c.first_highest.result c.first_highest.ensures

pub returns-else-at-octets : goal.returns-else-at-octets
returns-else-at-octets c = highest_past c.args.order c.args.octets.now c.args.at c.if-at-octets.false
