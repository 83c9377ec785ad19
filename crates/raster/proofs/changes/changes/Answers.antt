use Rattle.std.proofs.Common.{arith, ◌≡◌, ◌*◌, length, take}
use Rattle.std.proofs.lemmas.List.{take_all}
use Rattle.raster.specs.Changes.{turns_below}
use Rattle.raster.proofs.ChangeLemmas.{appends_changes, front_kept, lists_end, lists_none, lists_word}
use Rattle.raster.proofs.changes.changes.Goals as goal

pub loop-at-init : goal.loop-at-init
loop-at-init c = record {
  within = omega arith;
  aligned = c.next_turns-at.ensures.aligned;
  high = c.next_turns-at.ensures.high;
  word = c.next_turns-at.ensures.word;
  listed = rw (take_all c.len-start.result c.args.out.now.items (omega arith))
      (lists_none (turns_below c.args.octets.now c.args.width) c.args.out.now.items 0 (8 * c.next_turns-at.result.0)
      (λ k low h. c.next_turns-at.ensures.none k (omega arith) h));
}

pub returns-in-Err-clause-err : goal.returns-in-Err-clause-err
returns-in-Err-clause-err c =
    let all : c.len-start.result ≡ length c.args.out.now.items = omega arith in
    rw (c.truncate.ensures.items, c.in-Err.ensures.err, all)
    (front_kept c.args.out.now.items c.loop-at.out.items c.loop-at.invariant.listed.places c.loop-at.next c.loop-at.invariant.within
    c.loop-at.invariant.listed.appended)

pub loop-at-preserved : goal.loop-at-preserved
loop-at-preserved c = record {
  within = omega (arith, c.put_places-next.ensures.length, c.put_places-next.ensures.few, c.in_default.ensures.room);
  aligned = c.next_turns.ensures.aligned;
  high = c.next_turns.ensures.high;
  word = c.next_turns.ensures.word;
  listed = lists_word c.args.octets.now c.args.width c.loop-at.at c.loop-at.turned c.next_turns.result.0 c.next_turns.result.1
      c.args.out.now.items (take c.loop-at.next c.loop-at.out.items) _
      c.loop-at.invariant.word c.loop-at.invariant.listed
      (rw c.make_room.ensures.same at c.put_places-next.ensures.lists) c.next_turns.ensures;
}

pub returns-clause-ok : goal.returns-clause-ok
returns-clause-ok c =
    rw c.truncate-2.ensures.items
    (appends_changes c.args.octets.now c.args.width c.args.out.now.items (take c.loop-at.next c.loop-at.out.items)
    (lists_end c.args.octets.now c.args.width (8 * c.loop-at.at) c.args.out.now.items (take c.loop-at.next c.loop-at.out.items)
    (omega arith) c.loop-at.invariant.listed))
