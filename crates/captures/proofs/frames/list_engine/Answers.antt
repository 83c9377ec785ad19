-- What the check asks of `list_engine`.
use Rattle.std.proofs.Common.{◌+◌, ◌∙◌, subst}
use Rattle.std.proofs.KnownBytes.{Appends-kept}
use Rattle.std.specs.Io.KnownBytes.{Appends}
use Rattle.captures.specs.Frames.{frame_line}
use Rattle.captures.proofs.Contents.{before_first, no_more, one_more}
use Rattle.captures.proofs.Listing.{LinesLeft, all_left, all_listed, line_done, worth_told}
use Rattle.captures.proofs.frames.list_engine.Goals as goal

pub loop-number-init : goal.loop-number-init
loop-number-init g c = (
  c.new-contents.ensures.order,
  before_first (g.R.Read.remaining c.args.reader.now) c.args.how.order c.new-contents.result
      (LinesLeft c.args.how (g.W.Write.contents c.args.writer.now) (g.W.Write.contents c.args.writer.now) 1) c.new-contents.ensures.begins
      (all_left c.args.how (g.W.Write.contents c.args.writer.now)),
)

pub loop-number-preserved : goal.loop-number-preserved
loop-number-preserved g c = (
  c.in_ok-more.ensures.order ∙ c.loop-number.invariant.0,
  one_more (g.R.Read.remaining c.args.reader.now) (g.R.Read.remaining c.loop-number.reader) (g.R.Read.remaining c.advance.new.reader)
      c.loop-number.contents c.advance.new.self c.in_ok-more.more
      (LinesLeft c.args.how (g.W.Write.contents c.args.writer.now) (g.W.Write.contents c.loop-number.writer) c.loop-number.number)
      (LinesLeft c.args.how (g.W.Write.contents c.args.writer.now) (g.W.Write.contents c.flush_waiting.new.writer) (c.loop-number.number + 1))
      c.loop-number.invariant.1 c.if-not-more.false c.in_ok-more.ensures.next
      (λ line later left. line_done c.args.how (g.W.Write.contents c.args.writer.now) (g.W.Write.contents c.loop-number.writer)
      (g.W.Write.contents c.flush_waiting.new.writer) c.loop-number.number line c.advance.new.self.content later
      (Appends-kept _ _ _ _ (subst (λ l. Appends (g.W.Write.contents c.loop-number.writer) (g.W.Write.contents c.write_frame.new.writer)
      (frame_line c.args.how c.loop-number.number l)) c.content.ensures c.in_ok-write_frame.ensures.line)
      c.in_ok-flush_waiting.ensures.same) left),
)

pub returns-then-not-more-clause-listed : goal.returns-then-not-more-clause-listed
returns-then-not-more-clause-listed g c =
    no_more (g.R.Read.remaining c.args.reader.now) (g.R.Read.remaining c.loop-number.reader) (g.R.Read.remaining c.advance.new.reader)
    c.loop-number.contents c.advance.new.self c.in_ok-more.more
    (LinesLeft c.args.how (g.W.Write.contents c.args.writer.now) (g.W.Write.contents c.loop-number.writer) c.loop-number.number)
    _ c.loop-number.invariant.1 c.if-not-more.true c.in_ok-more.ensures.next c.in_ok-more.ensures.end
    (λ line read left. (
      all_listed c.args.how (g.W.Write.contents c.args.writer.now) (g.W.Write.contents c.loop-number.writer)
          (g.W.Write.contents c.write_counts.new.writer) c.loop-number.number c.advance.new.self c.counts.result line
          (c.in_ok-more.ensures.order ∙ c.loop-number.invariant.0) c.counts.ensures c.in_ok-write_counts.ensures.line read left,
      worth_told c.args.how (g.W.Write.contents c.args.writer.now) (g.W.Write.contents c.loop-number.writer) c.loop-number.number
          c.octets.result c.advance.new.self c.has_no_frame.result line c.octets.ensures c.has_no_frame.ensures read left,
    ))
