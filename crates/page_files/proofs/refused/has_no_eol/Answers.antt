-- What the check asks of `has_no_eol`.
use Rattle.std.proofs.Common.{◌∙◌, sym}
use Rattle.std.proofs.lemmas.Bool.{OnTrue_from, not-true}
use Rattle.page_files.proofs.MissingEol.{no_eol_there}
use Rattle.page_files.proofs.refused.has_no_eol.Goals as goal

pub returns : goal.returns
returns c = OnTrue_from _ _ (λ yes.
    no_eol_there c.args.width c.args.reader c.read_row_1d.new.self c.in-Ok._row c.args.place c.starts_with.result c.in-Ok.ensures.reads
    (sym c.place.ensures.place ∙ c.if-place.false) c.starts_with.ensures (not-true c.starts_with.result yes))
