use Rattle.std.proofs.Common.{◌-◌, arith, ap, ◌∙◌, ◌≡◌, ◌≤◌, ◌+◌, ◌∷◌, [], drop, sum, get_or, length}
use Rattle.std.proofs.lemmas.List.{drop_all, drop_more}
use Rattle.raster.specs.Painting.{ends_of}
use Rattle.raster.proofs.PaintingLemmas.{drawn_none, drawn_turn, painted_runs}
use Rattle.raster.proofs.RowLemmas.{sum_more}
use Rattle.raster.proofs.painting.paint.Goals as goal

pub loop-at-init : goal.loop-at-init
loop-at-init c = record {
  within = omega arith;
  room = c.requires.room;
  left = omega (arith, c.requires.sum);
  begun = omega arith;
  aligned = omega arith;
  low = omega arith;
  clear = λ k h. c.requires.clear k;
  drawn = drawn_none c.args.octets.now (ends_of 0 c.args.runs.now) c.requires.clear;
}

pub loop-at-preserved : goal.loop-at-preserved
loop-at-preserved c =
    let runs = c.args.runs.now in
    let next : drop c.loop-at.at runs ≡ get_or runs c.loop-at.at 0 ∷ drop (c.loop-at.at + 1) runs = drop_more runs c.loop-at.at 0 (omega arith) in
    let total : sum (drop c.loop-at.at runs) ≡ get_or runs c.loop-at.at 0 + sum (drop (c.loop-at.at + 1) runs) = ap sum next ∙
    sum_more (get_or runs c.loop-at.at 0) (drop (c.loop-at.at + 1) runs) in
    record {
      within = omega arith;
      room = omega (arith, c.turn-brush.ensures.length, c.loop-at.invariant.room);
      left = omega (arith, c.loop-at.invariant.left, total);
      begun = c.turn-brush.ensures.begun;
      aligned = c.turn-brush.ensures.aligned;
      low = c.turn-brush.ensures.low;
      clear = c.turn-brush.ensures.clear;
      drawn = drawn_turn c.loop-at.octets (c.loop-at.brush.end - 64) c.loop-at.brush.word (c.loop-at.place + get_or runs c.loop-at.at 0)
          (ends_of (c.loop-at.place + get_or runs c.loop-at.at 0) (drop (c.loop-at.at + 1) runs)) (ends_of 0 runs) c.turn-brush.new.octets
          (c.turn-brush.result.end - 64) c.turn-brush.result.word (rw next at c.loop-at.invariant.drawn) c.turn-brush.ensures.drawn;
    }

pub returns-clause-painted : goal.returns-clause-painted
returns-clause-painted c =
    let past : length c.args.runs.now ≤ c.loop-at.at = omega arith in
    let none : drop c.loop-at.at c.args.runs.now ≡ [] = drop_all c.loop-at.at c.args.runs.now past in
    painted_runs c.finish.new.octets c.args.runs.now c.args.width c.requires.sum
    (λ k h. c.finish.ensures.bits k h ∙ (rw none at c.loop-at.invariant.drawn) k)
