-- What the check asks of `tell_those`.
use Rattle.page_files.proofs.Identifying.{all_lines, line_more}
use Rattle.page_files.proofs.identify.tell_those.Goals as goal

pub loop-one-preserved : goal.loop-one-preserved
loop-one-preserved g c =
    line_more (g.W.Write.contents c.args.writer.now) (g.W.Write.contents c.loop-one.writer) (g.W.Write.contents c.tell_one.new.writer)
    c.args.fit c.args.octets.now c.args.tried.now c.loop-one.one-index _ c.loop-one-test.true c.loop-one.invariant
    c.in_ok-tell_one.ensures.told

pub returns-clause-told : goal.returns-clause-told
returns-clause-told g c =
    all_lines (g.W.Write.contents c.args.writer.now) (g.W.Write.contents c.loop-one.writer) c.args.fit c.args.octets.now
    c.args.tried.now c.loop-one.one-index c.loop-one-test.false c.loop-one.invariant
