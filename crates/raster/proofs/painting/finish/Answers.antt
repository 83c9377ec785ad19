use Rattle.std.proofs.Common.{◌-◌, arith, ◌∙◌}
use Rattle.raster.proofs.PaintingLemmas.{drawn_to_end, packed_to_end}
use Rattle.raster.proofs.painting.finish.Goals as goal

pub returns-clause-packed : goal.returns-clause-packed
returns-clause-packed c =
    packed_to_end c.reach-end.new.octets (c.reach-end.result.end - 64) c.reach-end.result.word c.first_bits-last.result c.args.width
    c.store.new.octets (omega (arith, c.reach-end.ensures.low)) (omega (arith, c.reach-end.ensures.begun, c.reach-end.ensures.high))
    (record {
      inside = c.first_bits-last.ensures.inside;
      after = c.first_bits-last.ensures.after;
    })
    c.store.ensures (λ i low. c.reach-end.ensures.clear i (omega arith)) (omega (arith, c.reach-end.ensures.length, c.requires.room))

pub returns-clause-bits : goal.returns-clause-bits
returns-clause-bits c k h =
    drawn_to_end c.reach-end.new.octets (c.reach-end.result.end - 64) c.reach-end.result.word c.first_bits-last.result c.args.width
    c.store.new.octets k (omega (arith, c.reach-end.ensures.low)) (omega (arith, c.reach-end.ensures.begun, c.reach-end.ensures.high))
    (record {
      inside = c.first_bits-last.ensures.inside;
      after = c.first_bits-last.ensures.after;
    })
    c.store.ensures h ∙ c.reach-end.ensures.drawn k
