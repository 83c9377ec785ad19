use Rattle.std.proofs.Common.{◌∙◌, ap, arith, length, sym, take}
use Rattle.page_code.specs.TwoDimensions.Lines.{BothLines}
use Rattle.page_code.proofs.TwoDimensions.QuickModes.{lengths}
use Rattle.page_code.proofs.t6.lines.Lines.width.Goals as goal

pub returns-clause-width : goal.returns-clause-width
returns-clause-width c =
    let inside = c.self.inside in
    sym (lengths (take inside.known inside.held.items) inside.list.items inside.width inside.front _ c.self.invariant.fits
    c.self.invariant.held).1 ∙ ap (λ (b : BothLines). length b.reference) c.self.view_is

pub returns-clause-fits : goal.returns-clause-fits
returns-clause-fits c =
    let inside = c.self.inside in
    let both = lengths (take inside.known inside.held.items) inside.list.items inside.width inside.front _ c.self.invariant.fits
    c.self.invariant.held in
    rw (← c.self.view_is) (omega (arith, both.0, both.1, c.self.invariant.fits.low))
