-- What holds in the loop of `write_notices`: notices of the rest are missing alone.
use Rattle.std.proofs.Common.{ℕ, List, Option, length}
use denote.Shadow.{shadow}
use denote.Text.{Utf8}
use Rattle.std.specs.Io.KnownBytes.{Appends}
use Rattle.page_files.specs.DecodeRecords.{notices}
use Rattle.page_files.proofs.decode_records.write_notices.Given as goal

abbrev pub invariant-loop-line : goal.invariant-loop-line
invariant-loop-line g l = shadow (Utf8 l.rest) × ((after : Option (List ℕ)) → Appends (g.W.Write.contents l.writer) after (notices l.rest)
    → Appends (g.W.Write.contents l.fn.writer) after (notices l.fn.text))

abbrev pub decreases-loop-line : goal.decreases-loop-line
decreases-loop-line g l = length l.rest
