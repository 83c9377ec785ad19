-- What holds in the loop of `write_signs`.
use Rattle.std.proofs.Common.{◌≡◌}
use Rattle.std.specs.Io.KnownBytes.{Appends}
use Rattle.captures.specs.OtherWords.{is_shown, sign_here}
use Rattle.captures.specs.Below.{some_below, texts_below}
use Rattle.captures.proofs.other_words.write_signs.Given as goal

abbrev pub invariant-loop-at : goal.invariant-loop-at
invariant-loop-at g l =
    (l.begun ≡ some_below (is_shown l.fields) l.at) ×
    Appends (g.W.Write.contents l.initial.writer) (g.W.Write.contents l.writer) (texts_below (sign_here l.fields) l.at)
