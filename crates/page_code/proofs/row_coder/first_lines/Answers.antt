use Rattle.std.proofs.Common.{◌∙◌, ◌≡◌, List, ap, length, replicate, subst, take, ℕ}
use Rattle.std.specs.Prelude.{IfOk}
use Rattle.std.proofs.lemmas.List.{append-nil, length-replicate}
use Rattle.raster.specs.declared.row.Color.{Color}
use Rattle.raster.specs.declared.row.Color.TheVariants.{White}
use Rattle.page_code.specs.TwoDimensions.Changes.{AreHeld}
use Rattle.page_code.specs.TwoDimensions.Coding.{FitsLines}
use Rattle.page_code.specs.TwoDimensions.Positions.{white_line}
use Rattle.page_code.proofs.row_coder.first_lines.Goals as goal

pub returns-in-OneDim-clause-fits : goal.returns-in-OneDim-clause-fits
returns-in-OneDim-clause-fits c = rw c.in-OneDim.is tt

pub returns-in-OneDim-clause-held : goal.returns-in-OneDim-clause-held
returns-in-OneDim-clause-held c = rw c.in-OneDim.is tt

pub returns-in_ok-white-in-T6-clause-fits : goal.returns-in_ok-white-in-T6-clause-fits
returns-in_ok-white-in-T6-clause-fits c =
    let is : c.lent.result ≡ white_line c.args.width =
    c.lent.ensures ∙ (c.in_ok-white-in-T6.ensures ∙ append-nil (replicate c.args.width White)) in
    rw c.in-T6.is (subst (λ (n : ℕ). IfOk c.after.result (λ lines. FitsLines n lines.reference.items lines.row.items lines.known))
    (ap length is ∙ length-replicate c.args.width White) c.after.ensures.fits)

pub returns-in_ok-white-in-T6-clause-held : goal.returns-in_ok-white-in-T6-clause-held
returns-in_ok-white-in-T6-clause-held c =
    let is : c.lent.result ≡ white_line c.args.width =
    c.lent.ensures ∙ (c.in_ok-white-in-T6.ensures ∙ append-nil (replicate c.args.width White)) in
    rw c.in-T6.is (subst (λ (line : List Color). IfOk c.after.result (λ lines. AreHeld line (take lines.known lines.reference.items))) is
    c.after.ensures.held)
