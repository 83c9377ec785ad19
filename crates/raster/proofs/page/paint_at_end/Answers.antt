use Rattle.std.proofs.Common.{◌≡◌, ◌∙◌, take, arith}
use Rattle.raster.proofs.StoredLemmas.{append_painted, as_many, painted_at_end, resized_front}
use Rattle.raster.proofs.page.paint_at_end.Goals as goal

pub returns-clause-wide : goal.returns-clause-wide
returns-clause-wide c = as_many _ c.paint_turns.new.octets c.args.width c.paint_turns.ensures.painted

pub returns-clause-ok : goal.returns-clause-ok
returns-clause-ok c =
    let front : take c.count_of-start.result c.deref_mut.result.now ≡ c.args.octets.now.items =
    resized_front c.args.octets.now.items c.deref_mut.result.now c.count_of-start.result _ _
    (c.deref_mut.ensures.value ∙ c.in_ok-resize.ensures.items) c.count_of-start.ensures (omega arith) in
    append_painted _ c.paint_turns.new.octets c.args.octets.now.items c.truncate.new.self.items c.args.width c.octets_for.result
    c.paint_turns.ensures.painted c.paint_turns.ensures.packed c.octets_for.ensures c.requires.wide.1
    (rw c.truncate.ensures.items
    (painted_at_end c.args.octets.now.items c.deref_mut.result.now c.paint_turns.new.octets _ _ c.count_of-start.result c.resize.new.self.len
    c.octets_for.result c.count_of-start.ensures front (omega (arith, c.octets_for.ensures, c.paint_turns.ensures.packed.room))
    (omega (arith, c.in_ok-resize.ensures.len, c.octets_for.ensures))))
