-- What holds in the loop of `write_others`.
use Rattle.std.proofs.Common.{◌≡◌}
use Rattle.std.specs.Io.KnownBytes.{Appends}
use Rattle.captures.specs.Below.{some_below, texts_below}
use Rattle.captures.specs.SignalWords.{is_other, other_text}
use Rattle.captures.proofs.signal_words.write_others.Given as goal

abbrev pub invariant-loop-at : goal.invariant-loop-at
invariant-loop-at g l =
    (l.some ≡ some_below (is_other l.of_dcs l.fields) l.at) ×
    Appends (g.W.Write.contents l.initial.writer) (g.W.Write.contents l.writer) (texts_below (other_text l.of_dcs l.fields) l.at)
