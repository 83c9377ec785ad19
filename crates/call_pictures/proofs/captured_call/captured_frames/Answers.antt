-- What the check asks of `captured_frames`.
use Rattle.std.proofs.Common.{◌≡◌, ◌+◌, ◌++◌, ◌∷◌, [], ℕ, List, subst}
use Rattle.captures.proofs.Contents.{before_first, no_more, one_more}
use Rattle.call_pictures.specs.CapturedCalls.{frames_of, others_of}
use Rattle.call_pictures.proofs.CapturedCalls.{TakesLeft, all_taken, all_to_take, one_taken}
use Rattle.call_pictures.proofs.captured_call.captured_frames.Goals as goal

pub loop-content-init : goal.loop-content-init
loop-content-init g c =
    before_first (g.R.Read.remaining c.args.reader.now) c.args.order c.new-contents.result (TakesLeft c.args.order c.new.result.items 0)
    c.new-contents.ensures.begins (λ line. all_to_take c.args.order c.new.result.items line c.new.ensures.items)

pub loop-content-preserved : goal.loop-content-preserved
loop-content-preserved g c =
    let old = c.loop-content.frames in
    let new = c.take.new.self in
    one_more (g.R.Read.remaining c.args.reader.now) (g.R.Read.remaining c.loop-content.reader) (g.R.Read.remaining c.advance.new.reader)
    c.loop-content.contents c.advance.new.self c.in_ok-more.more (TakesLeft c.args.order old.known.items old.others)
    (TakesLeft c.args.order new.known.items new.others) c.loop-content.invariant c.if-not-more.false c.in_ok-more.ensures.next
    (λ line later left. one_taken c.args.order old.known.items new.known.items old.others new.others line c.advance.new.self.content later
    (subst (λ (l : List ℕ). new.known.items ≡ old.known.items ++ frames_of (l ∷ [])) c.content.ensures c.in_ok-take.ensures.known)
    (subst (λ (l : List ℕ). new.others ≡ old.others + others_of (l ∷ [])) c.content.ensures c.in_ok-take.ensures.others) left)

pub returns-then-not-more-clause-found : goal.returns-then-not-more-clause-found
returns-then-not-more-clause-found g c =
    let frames = c.loop-content.frames in
    no_more (g.R.Read.remaining c.args.reader.now) (g.R.Read.remaining c.loop-content.reader) (g.R.Read.remaining c.advance.new.reader)
    c.loop-content.contents c.advance.new.self c.in_ok-more.more (TakesLeft c.args.order frames.known.items frames.others) _
    c.loop-content.invariant c.if-not-more.true c.in_ok-more.ensures.next c.in_ok-more.ensures.end
    (λ line read left. all_taken c.args.order frames.known.items frames.others line left)
