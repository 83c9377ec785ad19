use Rattle.std.proofs.lemmas.Result.{on_ok_weaker}
use Rattle.raster.proofs.StoredLemmas.{alike_many, append_none}
use Rattle.raster.proofs.page.append_alike.Goals as goal

pub returns-clause-ok : goal.returns-clause-ok
returns-clause-ok c =
    on_ok_weaker c.push_place.result
    (λ pushed. pushed c.args.width _ c.args.octets.now.items (alike_many c.args.bit c.args.width) c.requires.stored c.requires.room
    c.count_of-start.ensures (append_none c.args.bit c.args.width c.args.octets.now.items c.requires.alike))
    c.push_place.ensures.pushed
