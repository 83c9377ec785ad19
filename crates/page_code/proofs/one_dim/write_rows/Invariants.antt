use Rattle.std.proofs.Common.{◌≡◌, ◌++◌, take}
use Rattle.page_code.specs.OneDimension.Pages.{rows_words}
use Rattle.page_code.proofs.one_dim.write_rows.Given as goal

abbrev pub invariant-loop-at : goal.invariant-loop-at
invariant-loop-at l = l.bits ≡ record l.fn.bits { bits = l.fn.bits.bits ++ rows_words (take l.at l.rows) }
