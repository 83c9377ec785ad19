-- What the check asks of `write_notices`.
use Rattle.std.proofs.Common.{rules}
use Rattle.page_files.proofs.NoticeLines.{notices_end, notices_more}
use Rattle.page_files.proofs.decode_records.write_notices.Goals as goal

pub loop-line-preserved : goal.loop-line-preserved
loop-line-preserved g c = (
  search rules,
  λ after more. c.loop-line.invariant.1 after
      (notices_more (g.W.Write.contents c.loop-line.writer) (g.W.Write.contents c.write_notice.new.writer) after c.loop-line.rest.now
      c.in-Some.line c.in-Some.after c.in-Some.ensures.cases c.in_ok-write_notice.ensures.line more),
)

pub returns-clause-told : goal.returns-clause-told
returns-clause-told g c = c.loop-line.invariant.1 (g.W.Write.contents c.loop-line.writer)
    (notices_end (g.W.Write.contents c.loop-line.writer) c.loop-line.rest.now (rw c.in_default.is at c.split_once.ensures.cases))
