use Rattle.std.proofs.Common.{arith, length-append, ap, length}
use Rattle.std.proofs.lemmas.Result.{on_ok_weaker}
use Rattle.raster.proofs.page.append_painter.Goals as goal

pub push_place-requires : goal.push_place-requires
push_place-requires c =
    let appended = c.in_ok-append_to.ensures.ok.appended in
    omega (arith, ap length appended.appended, length-append c.args.octets.now.items appended.octets, appended.few, c.requires.stored.short, c.requires.room)

pub returns-clause-ok : goal.returns-clause-ok
returns-clause-ok c =
    let painted = c.in_ok-append_to.ensures.ok in
    on_ok_weaker c.push_place.result
    (λ pushed. record {
      row = painted.row;
      pushed = pushed c.args.painter.now.width painted.row c.args.octets.now.items painted.wide c.requires.stored c.requires.room
          c.count_of-start.ensures painted.appended;
      are = painted.are;
    })
    c.push_place.ensures.pushed
