-- Rows of one width and with the same octets are the same.
use Rattle.std.proofs.Common.{◌≡◌, subst, sym, ◌∙◌}
use Rattle.std.specs.Cmp.Lexicographic.{bytes_decides}
use Rattle.raster.specs.PbmText.{HoldsRow}
use Rattle.line_sim.proofs.SamePages.{octets_once, row_once}
use Rattle.line_sim.proofs.pages.same_row.Goals as goal

pub returns-then-width-clause-same : goal.returns-then-width-clause-same
returns-then-width-clause-same c is =
    let octets : c.octets.result.now ≡ c.octets-then-width.result.now =
    (bytes_decides c.octets.result.now c.octets-then-width.result.now).0 (sym c.eq.ensures ∙ is) in
    row_once c.args.row.now c.args.other.now c.octets.result.now c.octets.ensures
    (subst (HoldsRow c.args.other.now) (sym octets) c.octets-then-width.ensures)
    (sym c.width.ensures.width ∙ (c.if-width.true ∙ c.width-2.ensures.width))

pub returns-then-width-clause-told : goal.returns-then-width-clause-told
returns-then-width-clause-told c same =
    c.eq.ensures ∙ (bytes_decides c.octets.result.now c.octets-then-width.result.now).1
    (octets_once c.args.row.now c.octets.result.now c.octets-then-width.result.now c.octets.ensures
    (subst (λ row. HoldsRow row c.octets-then-width.result.now) (sym same) c.octets-then-width.ensures))
