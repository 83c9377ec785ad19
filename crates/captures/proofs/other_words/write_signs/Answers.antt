-- What the check asks of `write_signs`.
use Rattle.std.proofs.Common.{subst}
use Rattle.std.specs.Io.KnownBytes.{Appends}
use Rattle.captures.specs.OtherWords.{is_shown, sign_after, sign_here}
use Rattle.captures.proofs.SignalWords.{no_texts, none_below, one_text, some_more}
use Rattle.captures.proofs.other_words.write_signs.Goals as goal

pub loop-at-init : goal.loop-at-init
loop-at-init g c = (
  none_below (is_shown c.args.fields.now),
  no_texts (sign_here c.args.fields.now) (g.W.Write.contents c.args.writer.now),
)

pub loop-at-preserved : goal.loop-at-preserved
loop-at-preserved g c = (
  some_more (is_shown c.args.fields.now) c.loop-at.at c.loop-at.begun c.in_ok-begun.begun c.loop-at.invariant.0
      c.in_ok-begun.ensures.begun,
  one_text (sign_here c.args.fields.now) c.loop-at.at (g.W.Write.contents c.args.writer.now)
      (g.W.Write.contents c.loop-at.writer) (g.W.Write.contents c.write_sign.new.writer) c.loop-at.invariant.1
      (subst (λ begun. Appends (g.W.Write.contents c.loop-at.writer) (g.W.Write.contents c.write_sign.new.writer)
      (sign_after begun c.args.fields.now c.loop-at.at)) c.loop-at.invariant.0 c.in_ok-begun.ensures.text),
)
