-- What the check asks of `write_map`.
use Rattle.std.proofs.Common.{subst, rules}
use Rattle.std.specs.Io.KnownBytes.{Appends}
use Rattle.captures.specs.SignalWords.{frame_after, frame_text, is_in_map}
use Rattle.captures.proofs.SignalWords.{no_texts, none_below, one_text, some_more}
use Rattle.captures.proofs.signal_words.write_map.Goals as goal

pub loop-number-init : goal.loop-number-init
loop-number-init g c =
    (none_below (is_in_map c.args.map.now), no_texts (frame_text c.args.map.now) (g.W.Write.contents c.args.writer.now))

pub loop-number-preserved : goal.loop-number-preserved
loop-number-preserved g c = (
  some_more (is_in_map c.args.map.now) c.loop-number.number c.loop-number.some _ c.loop-number.invariant.0 (search rules),
  one_text (frame_text c.args.map.now) c.loop-number.number (g.W.Write.contents c.args.writer.now)
      (g.W.Write.contents c.loop-number.writer) (g.W.Write.contents c.write_marked.new.writer) c.loop-number.invariant.1
      (subst (λ some. Appends (g.W.Write.contents c.loop-number.writer) (g.W.Write.contents c.write_marked.new.writer)
      (frame_after some c.args.map.now c.loop-number.number)) c.loop-number.invariant.0 c.in_ok-write_marked.ensures.text),
)
