-- What the check asks of `write_others`.
use Rattle.std.proofs.Common.{subst}
use Rattle.std.specs.Io.KnownBytes.{Appends}
use Rattle.captures.specs.SignalWords.{is_other, other_after, other_text}
use Rattle.captures.proofs.SignalWords.{no_texts, none_below, one_text, some_more}
use Rattle.captures.proofs.signal_words.write_others.Goals as goal

pub loop-at-init : goal.loop-at-init
loop-at-init g c = (
  none_below (is_other c.args.of_dcs c.args.fields.now),
  no_texts (other_text c.args.of_dcs c.args.fields.now) (g.W.Write.contents c.args.writer.now),
)

pub loop-at-preserved : goal.loop-at-preserved
loop-at-preserved g c = (
  some_more (is_other c.args.of_dcs c.args.fields.now) c.loop-at.at c.loop-at.some c.in_ok-some.some c.loop-at.invariant.0
      c.in_ok-some.ensures.some,
  one_text (other_text c.args.of_dcs c.args.fields.now) c.loop-at.at (g.W.Write.contents c.args.writer.now)
      (g.W.Write.contents c.loop-at.writer) (g.W.Write.contents c.add_other.new.writer) c.loop-at.invariant.1
      (subst (λ some. Appends (g.W.Write.contents c.loop-at.writer) (g.W.Write.contents c.add_other.new.writer)
      (other_after some c.args.of_dcs c.args.fields.now c.loop-at.at)) c.loop-at.invariant.0 c.in_ok-some.ensures.text),
)
