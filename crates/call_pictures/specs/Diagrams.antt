-- What a call is written to that is drawn too.
use Rattle.std.specs.Prelude.{ℕ, cond, List, Option, Some, None}
use Rattle.std.specs.Str.{bytes_eq}
use Rattle.call_pictures.specs.Ladders.{Drawn, drawn_text}
use Rattle.calls.specs.SentBits.{Written}

-- the lines that a writer has, if it says them and they are those that are drawn
abbrev pub lines_of : Option (List ℕ) → List ℕ → Option (List ℕ)
lines_of None drawn = None
lines_of (Some lines) drawn = cond (bytes_eq lines drawn) (Some lines) None

-- what a writer has, beside which the call is drawn: it says its lines as long as they are those of what is drawn
abbrev pub beside : Written → Option Drawn → Written
beside written None = written
beside written (Some drawn) = record written { lines = lines_of written.lines (drawn_text drawn) }
