use Rattle.std.proofs.Common.{arith, take}
use Rattle.page_code.proofs.TwoDimensions.QuickModes.{lengths}
use Rattle.page_code.proofs.t6.lines.Lines.pass.Goals as goal

pub under_b2-self-inside-requires-clause-short : goal.under_b2-self-inside-requires-clause-short
under_b2-self-inside-requires-clause-short c =
    let inside = c.self.inside in
    let both = lengths (take inside.known inside.held.items) inside.list.items inside.width inside.front _ c.self.invariant.fits
    c.self.invariant.held in
    let short = rw (← c.self.view_is) at c.requires in
    omega (arith, both.0, both.1, short)
