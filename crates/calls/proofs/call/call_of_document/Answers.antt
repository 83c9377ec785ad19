-- What the check asks of `call_of_document`.
use Rattle.std.proofs.Common.{subst}
use Rattle.line_sim.specs.Line.{new_world}
use Rattle.line_sim.specs.Represents.{Shows}
use Rattle.calls.specs.Calls.{caller_wish}
use Rattle.calls.specs.SentBits.{WritesAfter}
use Rattle.calls.proofs.CallSteps.{tells_call, told_rows}
use Rattle.calls.proofs.call.call_of_document.Goals as goal

pub returns-clause-told : goal.returns-clause-told
returns-clause-told g c = (
  c.in_ok-follow_script.ensures.told.0,
  c.in_ok-follow_script.ensures.told.1,
  tells_call c.headline.ensures.safe c.args.options.now c.args.document c.in_ok-follow_script.ensures.told.0 c.in-Ok.live
      c.follow_script.new.live c.into_ending-ending.result c.follow_script.new.number (g.T.CallWriter.written c.args.writer.now)
      (g.T.CallWriter.written c.write_sent.new.writer) (g.T.CallWriter.written c.follow_script.new.writer)
      (g.T.CallWriter.written c.ending.new.self) c.pages-pages.ensures.document
      c.in-Ok.ensures.new.0
      (subst (λ caps. Shows c.in-Ok.live (new_world c.args.document (caller_wish c.args.options.now) caps))
      c.answerer_caps-caps.ensures c.in-Ok.ensures.new.1)
      (subst (λ n. WritesAfter n c.in-Ok.live (g.T.CallWriter.written c.args.writer.now)
      (g.T.CallWriter.written c.write_sent.new.writer)) c.none.ensures c.in_ok-write_sent.ensures.sent) c.in_ok-follow_script.ensures.told.2
      (λ w shows. record {
        pages = c.into_ending-ending.ensures.pages w shows;
        confirmed = c.into_ending-ending.ensures.confirmed w shows;
        caller_end = c.into_ending-ending.ensures.caller w shows;
        answerer_end = c.into_ending-ending.ensures.answerer w shows;
      })
      c.in_ok-ending.ensures.lines,
)

pub returns-clause-rows : goal.returns-clause-rows
returns-clause-rows g c =
    told_rows c.args.options.now c.args.document (returns-clause-told g c).0 (g.T.CallWriter.written c.args.writer.now)
    (g.T.CallWriter.written c.ending.new.self) c.into_ending-ending.result.pages.items (returns-clause-told g c).2.0
    c.pages-pages.ensures.document.rows
