use Rattle.std.proofs.Common.{◌∙◌, ap, sym}
use Rattle.std.specs.Box.{with_value}
use Rattle.g3fax.specs.declared.handle.Kept.TheVariants.{RowCoder}
use Rattle.g3fax.proofs.row_coders.end_kept.Goals as goal

-- the box of a coder that stays is the same box
pub returns-in-RowCoder-clause-kept : goal.returns-in-RowCoder-clause-kept
returns-in-RowCoder-clause-kept c failed =
    ap (λ coder. RowCoder (with_value c.in-RowCoder.rows coder)) (c.end_rows.ensures.kept failed ∙ c.deref_mut.ensures.value) ∙
    sym c.in-RowCoder.is
