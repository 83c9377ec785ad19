use Rattle.std.proofs.Common.{◌-◌, ◌+◌, get_or, drop}
use Rattle.raster.specs.Painting.{drawn_bit}
use Rattle.raster.proofs.PaintingLemmas.{drawn_four, drop_four}
use Rattle.raster.proofs.painting.turn_four.Goals as goal

pub returns-then-places-at-clause-drawn : goal.returns-then-places-at-clause-drawn
returns-then-places-at-clause-drawn c k =
    let places = c.args.places.now in
    let octets = c.args.octets.now in
    let at = c.args.at in
    rw (drop_four places at c.requires.within)
    (drawn_four (drop (at + 4) places) k (get_or places at 0) (get_or places (at + 1) 0) (get_or places (at + 2) 0)
    (get_or places (at + 3) 0) (drawn_bit octets (c.args.brush.end - 64) c.args.brush.word k)
    (drawn_bit octets (c.turn_within-one.result.end - 64) c.turn_within-one.result.word k)
    (drawn_bit octets (c.turn_within-two.result.end - 64) c.turn_within-two.result.word k)
    (drawn_bit octets (c.turn_within-three.result.end - 64) c.turn_within-three.result.word k)
    (drawn_bit octets (c.turn_within.result.end - 64) c.turn_within.result.word k) (c.turn_within-one.ensures.drawn octets k)
    (c.turn_within-two.ensures.drawn octets k) (c.turn_within-three.ensures.drawn octets k) (c.turn_within.ensures.drawn octets k))

pub returns-clause-drawn : goal.returns-clause-drawn
returns-clause-drawn c k =
    let places = c.args.places.now in
    let at = c.args.at in
    rw (drop_four places at c.requires.within)
    (drawn_four (drop (at + 4) places) k (get_or places at 0) (get_or places (at + 1) 0) (get_or places (at + 2) 0)
    (get_or places (at + 3) 0) (drawn_bit c.args.octets.now (c.args.brush.end - 64) c.args.brush.word k)
    (drawn_bit c.turn-one.new.octets (c.turn-one.result.end - 64) c.turn-one.result.word k)
    (drawn_bit c.turn-two.new.octets (c.turn-two.result.end - 64) c.turn-two.result.word k)
    (drawn_bit c.turn-three.new.octets (c.turn-three.result.end - 64) c.turn-three.result.word k)
    (drawn_bit c.turn.new.octets (c.turn.result.end - 64) c.turn.result.word k) (c.turn-one.ensures.drawn k)
    (c.turn-two.ensures.drawn k) (c.turn-three.ensures.drawn k) (c.turn.ensures.drawn k))
