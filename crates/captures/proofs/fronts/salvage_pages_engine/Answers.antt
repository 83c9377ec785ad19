-- What the check asks of `salvage_pages_engine`.
use Rattle.std.proofs.Common.{ℕ, List, ◌≡◌, ◌+◌, ◌∙◌, subst}
use Rattle.std.proofs.KnownBytes.{Appends-kept}
use Rattle.std.specs.Io.KnownBytes.{Appends}
use Rattle.captures.specs.Frames.{frame_line}
use Rattle.captures.proofs.Contents.{before_first, no_more, one_more}
use Rattle.captures.proofs.Listing.{LinesLeft, all_left, all_listed, line_done, worth_told}
use Rattle.signals.specs.Reading.{read_content}
use Rattle.captures.specs.Captured.{hears_read}
use Rattle.captures.specs.Fronts.{Salvages}
use Rattle.captures.proofs.Salvaging.{SalvageLeft, all_salvaged, all_to_salvage, content_salvaged}
use Rattle.captures.proofs.fronts.salvage_pages_engine.Goals as goal

pub loop-number-init : goal.loop-number-init
loop-number-init g c = (
  c.new-contents.ensures.order,
  before_first (g.R.Read.remaining c.args.reader.now) c.args.how.order c.new-contents.result
      (λ line coming. LinesLeft c.args.how (g.W.Write.contents c.args.writer.now) (g.W.Write.contents c.args.writer.now) 1 line coming
      × SalvageLeft g.S.FoundStore.takes g.S.FrontStore.fronts c.args.how.order c.args.store.now c.args.store.now c.new-capture.result line coming) c.new-contents.ensures.begins
      (λ line. (
        all_left c.args.how (g.W.Write.contents c.args.writer.now) line,
        all_to_salvage g.S.FoundStore.takes g.S.FrontStore.fronts c.args.how.order c.args.store.now c.new-capture.result line
            c.new-capture.ensures,
      )),
)

pub loop-number-preserved : goal.loop-number-preserved
loop-number-preserved g c = (
  c.in_ok-more.ensures.order ∙ c.loop-number.invariant.0,
  one_more (g.R.Read.remaining c.args.reader.now) (g.R.Read.remaining c.loop-number.reader) (g.R.Read.remaining c.advance.new.reader)
      c.loop-number.contents c.advance.new.self c.in_ok-more.more
      (λ line coming. LinesLeft c.args.how (g.W.Write.contents c.args.writer.now) (g.W.Write.contents c.loop-number.writer) c.loop-number.number line coming
      × SalvageLeft g.S.FoundStore.takes g.S.FrontStore.fronts c.args.how.order c.args.store.now c.loop-number.store c.loop-number.capture line coming)
      (λ line coming. LinesLeft c.args.how (g.W.Write.contents c.args.writer.now) (g.W.Write.contents c.flush_waiting.new.writer) (c.loop-number.number + 1) line coming
      × SalvageLeft g.S.FoundStore.takes g.S.FrontStore.fronts c.args.how.order c.args.store.now c.salvage_frame.new.store c.salvage_frame.new.capture line coming)
      c.loop-number.invariant.1 c.if-not-more.false c.in_ok-more.ensures.next
      (λ line later left. (
        line_done c.args.how (g.W.Write.contents c.args.writer.now) (g.W.Write.contents c.loop-number.writer)
            (g.W.Write.contents c.flush_waiting.new.writer) c.loop-number.number line c.advance.new.self.content later
            (Appends-kept _ _ _ _ (subst (λ l. Appends (g.W.Write.contents c.loop-number.writer) (g.W.Write.contents c.salvage_frame.new.writer)
            (frame_line c.args.how c.loop-number.number l)) c.content.ensures c.in_ok-salvage_frame.ensures.line)
            c.in_ok-flush_waiting.ensures.same) left.0,
        content_salvaged g.S.FoundStore.takes g.S.FrontStore.fronts c.args.how.order c.args.store.now c.loop-number.store
            c.salvage_frame.new.store c.loop-number.capture c.salvage_frame.new.capture line c.advance.new.self.content later
            (subst (λ (l : List ℕ). c.salvage_frame.new.capture ≡ (hears_read (read_content l) c.loop-number.capture).then) c.content.ensures
            c.in_ok-salvage_frame.ensures.is)
            (subst (λ (l : List ℕ). Salvages g.S.FoundStore.takes g.S.FrontStore.fronts (read_content l) c.loop-number.capture
            c.loop-number.store c.salvage_frame.new.store) c.content.ensures c.in_ok-salvage_frame.ensures.given) left.1,
      )),
)

pub returns-then-not-more-clause-given : goal.returns-then-not-more-clause-given
returns-then-not-more-clause-given g c =
    let before = g.W.Write.contents c.args.writer.now in
    let now = g.W.Write.contents c.loop-number.writer in
    let number = c.loop-number.number in
    no_more (g.R.Read.remaining c.args.reader.now) (g.R.Read.remaining c.loop-number.reader) (g.R.Read.remaining c.advance.new.reader)
    c.loop-number.contents c.advance.new.self c.in_ok-more.more
    (λ line coming. LinesLeft c.args.how before now number line coming
    × SalvageLeft g.S.FoundStore.takes g.S.FrontStore.fronts c.args.how.order c.args.store.now c.loop-number.store
    c.loop-number.capture line coming)
    _ c.loop-number.invariant.1 c.if-not-more.true c.in_ok-more.ensures.next c.in_ok-more.ensures.end
    (λ line read left. (
      (
        all_listed c.args.how before now (g.W.Write.contents c.write_counts.new.writer) number c.advance.new.self c.counts.result line
            (c.in_ok-more.ensures.order ∙ c.loop-number.invariant.0) c.counts.ensures c.in_ok-write_counts.ensures.line read left.0,
        worth_told c.args.how before now number c.octets.result c.advance.new.self c.has_no_frame.result line c.octets.ensures
            c.has_no_frame.ensures read left.0,
      ),
      all_salvaged g.S.FoundStore.takes g.S.FrontStore.fronts c.args.how.order c.args.store.now c.loop-number.store
          c.salvage_end.new.store c.loop-number.capture line c.in_ok-salvage_end.ensures.given left.1,
    ))
