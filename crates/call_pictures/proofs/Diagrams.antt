-- What a call is written to that is drawn too: one line more, in both.
use Rattle.std.proofs.Common.{◌≡◌, ℕ, Bool, true, false, List, ◌++◌, Option, Some, None, refl, ap, sym, subst, ◌∙◌}
use Rattle.std.proofs.lemmas.Slice.Eq.{bytes_eq-Decides}
use Rattle.std.specs.Io.KnownBytes.{Appends}
use Rattle.std.specs.Str.{bytes_eq}
use Rattle.signals.specs.declared.signal.Side.{Side}
use Rattle.signals.specs.declared.signal.Side.TheVariants.{Caller, Answerer}
use Rattle.call_pictures.specs.Diagrams.{beside, lines_of}
use Rattle.call_pictures.specs.Ladders.{Drawn, drawn_text}
use Rattle.calls.specs.SentBits.{WritesLines, Written, bits_to}

-- where both are the same, both have one line more
both_on : (xs ys drawn line : List ℕ) (alike : Bool) → bytes_eq xs drawn ≡ alike → ys ≡ xs ++ line →
    Appends (lines_of (Some xs) drawn) (lines_of (Some ys) (drawn ++ line)) line
both_on xs ys drawn line true is all =
    let same : xs ≡ drawn = (bytes_eq-Decides xs drawn).0 is in
    let more : ys ≡ drawn ++ line = all ∙ ap (λ l. l ++ line) same in
    let alike : bytes_eq ys (drawn ++ line) ≡ true = (bytes_eq-Decides ys (drawn ++ line)).1 more in
    rw (is, alike) all
both_on xs ys drawn line false is all = rw is tt

lines_on : (before after : Option (List ℕ)) (drawn line : List ℕ) → Appends before after line →
    Appends (lines_of before drawn) (lines_of after (drawn ++ line)) line
lines_on None after drawn line is = tt
lines_on (Some xs) None drawn line is = absurd is
lines_on (Some xs) (Some ys) drawn line is = both_on xs ys drawn line (bytes_eq xs drawn) refl is

-- a line was written, and drawn
pub writes_both : (before after : Written) (old new : Drawn) (line : List ℕ) → drawn_text new ≡ drawn_text old ++ line →
    WritesLines before after line → WritesLines (beside before (Some old)) (beside after (Some new)) line
writes_both before after old new line more wrote = record {
  lines = subst (λ l. Appends (lines_of before.lines (drawn_text old)) (lines_of after.lines l) line) (sym more)
      (lines_on before.lines after.lines (drawn_text old) line wrote.lines);
  sent = λ side. sent_as before after old new side (wrote.sent side);
}
  where
    sent_as : (before after : Written) (old new : Drawn) (side : Side) → bits_to side after ≡ bits_to side before →
        bits_to side (beside after (Some new)) ≡ bits_to side (beside before (Some old))
    sent_as before after old new Answerer is = is
    sent_as before after old new Caller is = is
