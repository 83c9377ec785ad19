use Rattle.std.proofs.Common.{◌≡◌, drop}
use Rattle.g3fax.specs.Texts.{as_table, text_by}
use Rattle.g3fax.proofs.texts.text_by.Given as goal

abbrev pub invariant-loop-row : goal.invariant-loop-row
invariant-loop-row l = text_by (as_table (drop l.row-index l.fn.rows)) l.fn.other l.fn.number ≡ text_by (as_table l.fn.rows) l.fn.other l.fn.number
