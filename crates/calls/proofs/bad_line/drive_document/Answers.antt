-- What the check asks of `drive_document`.
use Rattle.std.proofs.Common.{[], subst, sym}
use Rattle.line_sim.specs.Driving.{new_driven}
use Rattle.line_sim.specs.Fates.{ShowsDriven}
use Rattle.line_sim.specs.Represents.{Shows}
use Rattle.calls.specs.BadLines.{Going, Stands, bad_call, patience_of}
use Rattle.calls.specs.Calls.{answerer_caps, caller_wish}
use Rattle.calls.specs.SentBits.{WritesAfter}
use Rattle.calls.proofs.DrivenCalls.{driven_rows, tells_driven}
use Rattle.calls.proofs.SentItems.{no_counts}
use Rattle.calls.proofs.bad_line.drive_document.Goals as goal

pub returns-clause-told : goal.returns-clause-told
returns-clause-told g c =
    let wish = caller_wish c.args.options.now in
    let caps = answerer_caps c.args.options.now.modems in
    let first : Going = bad_call c.args.options.now c.args.line.now c.args.number c.args.document in
    let starts : Stands c.in-Ok.call c.args.line.now c.generator_of-generator.result first =
    record {
      shows = subst (λ known. ShowsDriven c.in-Ok.call (patience_of c.args.line.now) (new_driven c.args.document wish known []))
          c.answerer_caps-caps.ensures
          (subst (λ p. ShowsDriven c.in-Ok.call p (new_driven c.args.document wish c.answerer_caps-caps.result []))
          c.patience_of-patience.ensures (c.in-Ok.ensures.1 []));
      drawn = sym c.generator_of-generator.ensures;
    } in
    tells_driven c.headline.ensures.safe c.args.options.now c.args.line.now c.args.number c.args.document
    c.follow_fates.new.call c.in-Ok.call.live c.into_ending-ending.result (g.T.CallWriter.written c.args.writer.now)
    (g.T.CallWriter.written c.write_sent.new.writer) (g.T.CallWriter.written c.follow_fates.new.writer)
    (g.T.CallWriter.written c.ending.new.self) c.pages-pages.ensures.document
    c.in-Ok.ensures.0 starts.shows.world
    (subst (λ v. WritesAfter no_counts v (g.T.CallWriter.written c.args.writer.now) (g.T.CallWriter.written c.write_sent.new.writer))
    c.live.ensures
    (subst (λ n. WritesAfter n c.live.result.now (g.T.CallWriter.written c.args.writer.now)
    (g.T.CallWriter.written c.write_sent.new.writer)) c.none.ensures c.in_ok-write_sent.ensures.sent))
    (c.in_ok-follow_fates.ensures.told first starts)
    (λ w shows.
    let there : Shows c.into_live.result w = subst (λ v. Shows v w) (sym c.into_live.ensures) shows in
    record {
      pages = c.into_ending-ending.ensures.pages w there;
      confirmed = c.into_ending-ending.ensures.confirmed w there;
      caller_end = c.into_ending-ending.ensures.caller w there;
      answerer_end = c.into_ending-ending.ensures.answerer w there;
    })
    c.in_ok-ending.ensures.lines

pub returns-clause-rows : goal.returns-clause-rows
returns-clause-rows g c =
    driven_rows c.args.options.now c.args.line.now c.args.number c.args.document (g.T.CallWriter.written c.args.writer.now)
    (g.T.CallWriter.written c.ending.new.self) c.into_ending-ending.result.pages.items (returns-clause-told g c).0
    c.pages-pages.ensures.document.rows
