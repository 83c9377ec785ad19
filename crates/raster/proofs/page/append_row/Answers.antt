use Rattle.std.proofs.Common.{length, refl}
use Rattle.std.proofs.lemmas.Result.{on_ok_weaker}
use Rattle.raster.proofs.page.append_row.Goals as goal

pub returns-clause-ok : goal.returns-clause-ok
returns-clause-ok c =
    on_ok_weaker c.push_place.result
    (λ pushed. pushed (length c.args.row.now) c.args.row.now c.args.octets.now.items refl c.requires.stored c.requires.room
    c.count_of-start.ensures c.in_ok-alike.ensures.ok)
    c.push_place.ensures.pushed
