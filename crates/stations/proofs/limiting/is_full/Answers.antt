use Rattle.stations.proofs.Room.{full_by_count, full_by_octets}
use Rattle.stations.proofs.limiting.is_full.Goals as goal

pub returns-then-pages-limits : goal.returns-then-pages-limits
returns-then-pages-limits c = full_by_count c.args.limits c.args.pages.now c.if-pages-limits.true

pub returns-else-pages-limits : goal.returns-else-pages-limits
returns-else-pages-limits c =
    full_by_octets c.args.limits c.args.pages.now c.reach.result c.if-pages-limits.false c.reach.ensures
