use Rattle.std.proofs.lemmas.Result.{on_ok_weaker}
use Rattle.raster.proofs.page.append_turns.Goals as goal

pub returns-clause-ok : goal.returns-clause-ok
returns-clause-ok c =
    on_ok_weaker c.push_place.result
    (λ pushed. pushed c.args.width _ c.args.octets.now.items c.in_ok-paint_at_end.ensures.wide c.requires.stored c.requires.room
    c.count_of-start.ensures c.in_ok-paint_at_end.ensures.ok)
    c.push_place.ensures.pushed
