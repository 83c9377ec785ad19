use Rattle.std.proofs.Common.{arith, ◌-◌, ◌∙◌, ◌≡◌, ◌≤◌, ◌<◌, ◌+◌, ◌∷◌, [], drop, get_or, length}
use Rattle.std.proofs.lemmas.List.{drop_all, drop_more}
use Rattle.std.specs.Prelude.{All}
use Rattle.raster.proofs.PaintingLemmas.{drawn_none, drawn_turn, painted_turns}
use Rattle.raster.proofs.TurningLemmas.{climbs_from_0, follows}
use Rattle.raster.proofs.painting.paint_turns.Goals as goal

pub loop-at-init : goal.loop-at-init
loop-at-init c = record {
  within = omega arith;
  room = c.requires.room;
  begun = omega arith;
  aligned = omega arith;
  low = λ h. omega arith;
  below = omega arith;
  clear = λ k h. c.requires.clear k;
  drawn = drawn_none c.args.octets.now c.args.places.now c.requires.clear;
}

pub loop-at-preserved-then-places-at-ge4 : goal.loop-at-preserved-then-places-at-ge4
loop-at-preserved-then-places-at-ge4 c =
    let places = c.args.places.now in
    let at = c.loop-at.at in
    let inside : get_or places (at + 3) 0 < c.args.width = c.requires.below (at + 3) 0 (omega arith) in
    record {
      within = omega arith;
      room = omega (arith, c.turn_four-brush.ensures.length, c.loop-at.invariant.room);
      begun = c.turn_four-brush.ensures.begun;
      aligned = c.turn_four-brush.ensures.aligned;
      low = λ h. let up = c.requires.rising (at + 3) (at + 4) (omega arith) h in omega (arith, c.turn_four-brush.ensures.low);
      below = omega (arith, c.turn_four-brush.ensures.low);
      clear = c.turn_four-brush.ensures.clear;
      drawn = λ k. c.turn_four-brush.ensures.drawn k ∙ c.loop-at.invariant.drawn k;
    }

pub loop-at-preserved : goal.loop-at-preserved
loop-at-preserved c =
    let places = c.args.places.now in
    let place = get_or places c.loop-at.at 0 in
    let next : drop c.loop-at.at places ≡ place ∷ drop (c.loop-at.at + 1) places = drop_more places c.loop-at.at 0 (omega arith) in
    let inside : place < c.args.width = c.requires.below c.loop-at.at 0 (omega arith) in
    record {
      within = omega arith;
      room = omega (arith, c.turn-brush.ensures.length, c.loop-at.invariant.room);
      begun = c.turn-brush.ensures.begun;
      aligned = c.turn-brush.ensures.aligned;
      low = λ h. let up = c.requires.rising c.loop-at.at (c.loop-at.at + 1) (omega arith) h in omega (arith, c.turn-brush.ensures.low);
      below = omega (arith, c.turn-brush.ensures.low);
      clear = c.turn-brush.ensures.clear;
      drawn = drawn_turn c.loop-at.octets (c.loop-at.brush.end - 64) c.loop-at.brush.word place (drop (c.loop-at.at + 1) places)
          places c.turn-brush.new.octets (c.turn-brush.result.end - 64) c.turn-brush.result.word (rw next at c.loop-at.invariant.drawn)
          c.turn-brush.ensures.drawn;
    }

pub returns-clause-painted : goal.returns-clause-painted
returns-clause-painted c =
    let places = c.args.places.now in
    let past : length places ≤ c.loop-at.at = omega arith in
    let none : drop c.loop-at.at places ≡ [] = drop_all c.loop-at.at places past in
    let most : All (λ place. place ≤ c.args.width) places = λ k d h. let lt = c.requires.below k d h in omega arith in
    painted_turns c.finish.new.octets places c.args.width
    (follows 0 places c.args.width (climbs_from_0 places c.args.width c.requires.rising most))
    (λ k h. c.finish.ensures.bits k h ∙ (rw none at c.loop-at.invariant.drawn) k)
