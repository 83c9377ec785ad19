use Rattle.std.proofs.Common.{arith, take}
use Rattle.page_code.proofs.TwoDimensions.QuickModes.{lengths}
use Rattle.page_code.proofs.t6.lines.Lines.vertical.Goals as goal

pub to_a1-requires-clause-short : goal.to_a1-requires-clause-short
to_a1-requires-clause-short c =
    let inside = c.self.inside in
    let both = lengths (take inside.known inside.held.items) inside.list.items inside.width inside.front _ c.self.invariant.fits
    c.self.invariant.held in
    let short = rw (← c.self.view_is) at c.requires in
    omega (arith, both.0, both.1, short)
