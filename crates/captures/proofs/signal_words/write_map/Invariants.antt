-- What holds in the loop of `write_map`.
use Rattle.std.proofs.Common.{◌≡◌}
use Rattle.std.specs.Io.KnownBytes.{Appends}
use Rattle.captures.specs.Below.{some_below, texts_below}
use Rattle.captures.specs.SignalWords.{frame_text, is_in_map}
use Rattle.captures.proofs.signal_words.write_map.Given as goal

abbrev pub invariant-loop-number : goal.invariant-loop-number
invariant-loop-number g l =
    (l.some ≡ some_below (is_in_map l.map) l.number) ×
    Appends (g.W.Write.contents l.initial.writer) (g.W.Write.contents l.writer) (texts_below (frame_text l.map) l.number)
