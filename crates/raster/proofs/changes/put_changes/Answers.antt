use Rattle.std.proofs.Common.{arith, refl, ◌∙◌, [], ◌*◌, take}
use Rattle.raster.specs.Changes.{turns_below}
use Rattle.raster.proofs.ChangeLemmas.{are_changes, lists_end, lists_none, lists_word}
use Rattle.raster.proofs.changes.put_changes.Goals as goal

pub loop-at-init : goal.loop-at-init
loop-at-init c = record {
  size = refl;
  within = omega arith;
  fits = omega arith;
  aligned = c.next_turns-at.ensures.aligned;
  high = c.next_turns-at.ensures.high;
  word = c.next_turns-at.ensures.word;
  listed = lists_none (turns_below c.args.octets.now c.args.width) [] 0 (8 * c.next_turns-at.result.0)
      (λ k low h. c.next_turns-at.ensures.none k (omega arith) h);
}

pub loop-at-preserved : goal.loop-at-preserved
loop-at-preserved c = record {
  size = c.put_places-next.ensures.length ∙ c.loop-at.invariant.size;
  within = omega (arith, c.put_places-next.ensures.few, c.next_turns.ensures.low, c.loop-at.invariant.within);
  fits = omega (
    arith,
    c.put_places-next.ensures.few,
    c.put_places-next.ensures.length,
    c.loop-at.invariant.within,
    c.loop-at.invariant.size,
    c.requires.room,
  );
  aligned = c.next_turns.ensures.aligned;
  high = c.next_turns.ensures.high;
  word = c.next_turns.ensures.word;
  listed = lists_word c.args.octets.now c.args.width c.loop-at.at c.loop-at.turned c.next_turns.result.0 c.next_turns.result.1
      [] (take c.loop-at.next c.loop-at.out.items) _
      c.loop-at.invariant.word c.loop-at.invariant.listed c.put_places-next.ensures.lists c.next_turns.ensures;
}

pub returns-clause-changes : goal.returns-clause-changes
returns-clause-changes c =
    are_changes c.args.octets.now c.args.width (take c.loop-at.next c.loop-at.out.items)
    (lists_end c.args.octets.now c.args.width (8 * c.loop-at.at) [] (take c.loop-at.next c.loop-at.out.items)
    (omega arith) c.loop-at.invariant.listed)
