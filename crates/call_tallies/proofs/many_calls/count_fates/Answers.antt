-- What the check asks of `count_fates`.
use Rattle.std.proofs.Common.{refl, subst, sym, ◌∙◌}
use Rattle.call_tallies.specs.LineTimes.{RunsAfter}
use Rattle.call_tallies.proofs.CountedSteps.{all_counted, none_went, one_went}
use Rattle.call_tallies.proofs.FewTries.{none_tried, one_tried}
use Rattle.calls.proofs.SentItems.{AreCounted}
use Rattle.call_tallies.proofs.many_calls.count_fates.Goals as goal

pub loop-made-init : goal.loop-made-init
loop-made-init c = record {
  document = refl;
  counted = λ first stands. (
    none_went c.args.line.now first c.args.call.now c.args.generator.now c.new-counts.result c.new.result c.in_ok-clocks.clocks
        c.new-counts.ensures c.new.ensures
        (subst (λ n. RunsAfter n c.args.call.now.live c.new.result c.in_ok-clocks.clocks) c.none.ensures
        (subst (λ v. RunsAfter c.none.result v c.new.result c.in_ok-clocks.clocks) c.live.ensures c.in_ok-clocks.ensures.runs))
        stands,
    none_tried c.args.spare c.args.line.now first c.first-tries.result c.first-tries.ensures,
  );
}

pub returns-in_default-clause-counted : goal.returns-in_default-clause-counted
returns-in_default-clause-counted c first stands =
    all_counted c.args.line.now c.args.spare first c.loop-made._made c.loop-made.call c.set_answerer-set.new.call c.next_step.new.call
    c.loop-made.generator c.set_answerer-set.new.generator c.next_step.new.generator c.loop-made.counts c.loop-made.clocks
    c.loop-made.tries c.set_answerer-set.result (c.loop-made.invariant.counted first stands).0 (c.loop-made.invariant.counted first stands).1
    c.set_answerer-set.ensures.set (sym c.is_marked.ensures ∙ c.if-is_marked.false) c.in_default.ensures.draws

pub loop-made-preserved : goal.loop-made-preserved
loop-made-preserved c = record {
  document = c.in-Some.ensures.document ∙ (c.set_answerer-set.ensures.document ∙ c.loop-made.invariant.document);
  counted = λ first stands. (
    one_went c.args.line.now first c.loop-made._made c.loop-made.call c.set_answerer-set.new.call c.next_step.new.call
        c.loop-made.generator c.set_answerer-set.new.generator c.next_step.new.generator c.loop-made.counts c.in_ok-counts.counts
        c.loop-made.clocks c.in_ok-clocks-2.clocks c.set_answerer-set.result c.in-Some.step (c.loop-made.invariant.counted first stands).0
        c.set_answerer-set.ensures.set (sym c.is_marked.ensures ∙ c.if-is_marked.false) c.in-Some.ensures.draws c.if-step.false
        c.in_ok-counts.ensures.counts
        (record {
          counts = c.of-before.result;
          counted = subst (AreCounted c.of-before.result) c.live-in-loop-made.ensures
              (record { to_answerer = c.of-before.ensures.to_answerer; to_caller = c.of-before.ensures.to_caller });
          runs = subst (λ v. RunsAfter c.of-before.result v c.loop-made.clocks c.in_ok-clocks-2.clocks) c.live-in-loop-made-2.ensures
              c.in_ok-clocks-2.ensures.runs;
        }),
    one_tried c.args.line.now first c.loop-made._made c.args.spare c.loop-made.call c.set_answerer-set.new.call c.next_step.new.call
        c.loop-made.generator c.set_answerer-set.new.generator c.next_step.new.generator c.loop-made.tries c.in_ok-tries.tries
        c.set_answerer-set.result c.in-Some.step c.of-stood.result c.of.result (c.loop-made.invariant.counted first stands).0.stands
        c.set_answerer-set.ensures.set (sym c.is_marked.ensures ∙ c.if-is_marked.false) c.in-Some.ensures.draws c.if-step.false
        (c.loop-made.invariant.counted first stands).1 c.of-stood.ensures.stood c.of-stood.ensures.no_check c.of.ensures.stood
        c.in_ok-tries.ensures.tried,
  );
}
