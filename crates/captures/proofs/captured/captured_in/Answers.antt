-- What the check asks of `captured_in`.
use Rattle.std.proofs.Common.{◌∙◌, ℕ, List, subst}
use Rattle.signals.specs.Reading.{read_content}
use Rattle.captures.specs.Captured.{Takes, hears_read}
use Rattle.captures.proofs.Contents.{before_first, no_more, one_more}
use Rattle.captures.proofs.Following.{OutLeft, all_found, all_to_find, content_found}
use Rattle.captures.proofs.captured.captured_in.Goals as goal

pub loop-content-init : goal.loop-content-init
loop-content-init g c = (
  c.new-contents.ensures.order,
  before_first (g.R.Read.remaining c.args.reader.now) c.args.order c.new-contents.result
      (OutLeft c.args.order c.new-out.result.items c.new-capture.result) c.new-contents.ensures.begins
      (λ line. all_to_find c.args.order c.new-out.result.items c.new-capture.result line c.new-out.ensures.items c.new-capture.ensures),
)

pub loop-content-preserved : goal.loop-content-preserved
loop-content-preserved g c =
    let taken : Takes (hears_read (read_content c.advance.new.self.content) c.loop-content.capture) c.hear_content.new.self
    c.loop-content.out.items c.hear_content.new.out.items =
    subst (λ (l : List ℕ). Takes (hears_read (read_content l) c.loop-content.capture) c.hear_content.new.self c.loop-content.out.items
    c.hear_content.new.out.items) c.content.ensures c.in_ok-hear_content.ensures.taken in (
      c.in_ok-more.ensures.order ∙ c.loop-content.invariant.0,
      one_more (g.R.Read.remaining c.args.reader.now) (g.R.Read.remaining c.loop-content.reader) (g.R.Read.remaining c.advance.new.reader)
          c.loop-content.contents c.advance.new.self c.in_ok-more.more
          (OutLeft c.args.order c.loop-content.out.items c.loop-content.capture)
          (OutLeft c.args.order c.hear_content.new.out.items c.hear_content.new.self)
          c.loop-content.invariant.1 c.if-not-more.false c.in_ok-more.ensures.next
          (λ line later left. content_found c.args.order c.loop-content.out.items c.hear_content.new.out.items c.loop-content.capture
          c.hear_content.new.self line c.advance.new.self.content later taken.is taken.found left),
    )

pub returns-then-not-more-clause-found : goal.returns-then-not-more-clause-found
returns-then-not-more-clause-found g c =
    no_more (g.R.Read.remaining c.args.reader.now) (g.R.Read.remaining c.loop-content.reader) (g.R.Read.remaining c.advance.new.reader)
    c.loop-content.contents c.advance.new.self c.in_ok-more.more (OutLeft c.args.order c.loop-content.out.items c.loop-content.capture) _
    c.loop-content.invariant.1 c.if-not-more.true c.in_ok-more.ensures.next c.in_ok-more.ensures.end
    (λ line read left. all_found c.args.order c.loop-content.out.items c.end.new.out.items c.loop-content.capture line
    c.in_ok-end.ensures.named left)
