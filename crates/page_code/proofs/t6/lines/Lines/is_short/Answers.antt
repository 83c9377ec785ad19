use Rattle.std.proofs.Common.{take}
use Rattle.page_code.proofs.TwoDimensions.BothLines.{short_no, short_yes}
use Rattle.page_code.proofs.TwoDimensions.QuickModes.{lengths}
use Rattle.page_code.proofs.t6.lines.Lines.is_short.Goals as goal

pub returns-clause-yes : goal.returns-clause-yes
returns-clause-yes c =
    let inside = c.self.inside in
    let both = lengths (take inside.known inside.held.items) inside.list.items inside.width inside.front _ c.self.invariant.fits
    c.self.invariant.held in
    rw (← c.self.view_is) (short_yes inside.front.from inside.width _ _ both.0 both.1 c.self.invariant.fits.wide.0)

pub returns-clause-no : goal.returns-clause-no
returns-clause-no c =
    let inside = c.self.inside in
    let both = lengths (take inside.known inside.held.items) inside.list.items inside.width inside.front _ c.self.invariant.fits
    c.self.invariant.held in
    rw (← c.self.view_is) (short_no inside.front.from inside.width _ _ both.0 both.1 c.self.invariant.fits.low)
