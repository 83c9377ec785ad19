use Rattle.std.proofs.Common.{sym, take}
use Rattle.raster.proofs.StoredLemmas.{append_copied}
use Rattle.raster.proofs.page.copy_to_end.Goals as goal

pub returns-clause-ok : goal.returns-clause-ok
returns-clause-ok c =
    append_copied c.args.row.now c.args.octets.now.items c.clear_last.new.octets.items c.args.width c.octets_for.result
    (c.clear_last.ensures c.args.octets.now.items (take c.octets_for.result c.args.row.now) c.in_ok-extend_from_slice.ensures.items
    (sym c.count_of-start.ensures)) c.octets_for.ensures c.requires.within c.requires.wide.1
