-- What the check asks of `follow_fates`.
use Rattle.std.proofs.Common.{subst}
use Rattle.line_sim.specs.Fates.{entries_of}
use Rattle.calls.specs.BadLines.{entry_if}
use Rattle.calls.specs.SentBits.{WritesAfter}
use Rattle.calls.proofs.DrivenSteps.{is_told, none_made, one_made, set_lines}
use Rattle.calls.proofs.SentItems.{AreCounted}
use Rattle.calls.proofs.bad_line.follow_fates.Goals as goal

pub loop-made-init : goal.loop-made-init
loop-made-init g c first stands =
    none_made c.args.line.now first c.args.call.now c.args.generator.now (g.T.CallWriter.written c.args.writer.now) stands

pub returns-in_default-clause-told : goal.returns-in_default-clause-told
returns-in_default-clause-told g c first stands =
    is_told c.args.line.now first c.loop-made._made c.loop-made.call c.set_answerer-set.new.call c.next_step.new.call
    c.loop-made.generator c.set_answerer-set.new.generator c.next_step.new.generator c.loop-made.number
    (g.T.CallWriter.written c.args.writer.now) (g.T.CallWriter.written c.loop-made.writer) (g.T.CallWriter.written c.tell_set.new.writer)
    c.set_answerer-set.result (c.loop-made.invariant first stands) c.set_answerer-set.ensures.set c.in_ok-tell_set.ensures.whole
    c.in_default.ensures.draws c.in_ok-tell_set.ensures.lines

pub loop-made-preserved : goal.loop-made-preserved
loop-made-preserved g c first stands =
    one_made c.args.line.now first c.loop-made._made c.loop-made.call c.set_answerer-set.new.call c.next_step.new.call
    c.loop-made.generator c.set_answerer-set.new.generator c.next_step.new.generator c.loop-made.number c.tell_set.new.number
    c.tell_step.new.number (g.T.CallWriter.written c.args.writer.now) (g.T.CallWriter.written c.loop-made.writer)
    (g.T.CallWriter.written c.write_sent.new.writer) c.set_answerer-set.result c.in-Some.step (c.loop-made.invariant first stands)
    c.set_answerer-set.ensures.set c.in_ok-tell_set.ensures.whole c.in-Some.ensures.draws c.if-step.false
    (record {
      mid = g.T.CallWriter.written c.tell_step.new.writer;
      lines = set_lines c.loop-made.number c.tell_set.new.number (g.T.CallWriter.written c.loop-made.writer)
          (g.T.CallWriter.written c.tell_set.new.writer) (g.T.CallWriter.written c.tell_step.new.writer)
          (entry_if c.set_answerer-set.result) (entries_of c.in-Some.step) c.in_ok-tell_set.ensures.lines c.in_ok-tell_set.ensures.next
          c.in_ok-tell_step.ensures.lines;
      counts = c.of-counts.result;
      counted = subst (AreCounted c.of-counts.result) c.live.ensures
          (record { to_answerer = c.of-counts.ensures.to_answerer; to_caller = c.of-counts.ensures.to_caller });
      wrote = subst (λ v. WritesAfter c.of-counts.result v (g.T.CallWriter.written c.tell_step.new.writer)
          (g.T.CallWriter.written c.write_sent.new.writer)) c.live-in-loop-made.ensures c.in_ok-write_sent.ensures.sent;
    })
    c.in_ok-tell_set.ensures.next c.in_ok-tell_step.ensures.next
