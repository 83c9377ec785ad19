-- What the check asks of `figures_told`.
use Rattle.std.proofs.Common.{◌∙◌, ap}
use Rattle.g3fax.specs.Figures.{with_name, with_other}
use Rattle.g3fax.proofs.figures.figures_told.Goals as goal

pub returns : goal.returns
returns c =
    c.with_name.ensures
    ∙ ap (with_name c.args.figures.name)
    (c.with_other.ensures ∙ ap (with_other c.args.figures.unread) c.figures_without-told.ensures)
