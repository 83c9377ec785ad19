use Rattle.std.proofs.Common.{arith, take}
use Rattle.std.proofs.lemmas.List.{length-take-le}
use Rattle.page_code.proofs.TwoDimensions.BothLines.{runs_fit}
use Rattle.page_code.proofs.TwoDimensions.Lines.{few_left}
use Rattle.page_code.proofs.TwoDimensions.QuickModes.{lengths}
use Rattle.page_code.proofs.t6.lines.Lines.push_runs.Goals as goal

pub to_a2-self-inside-requires-clause-room : goal.to_a2-self-inside-requires-clause-room
to_a2-self-inside-requires-clause-room c =
    let inside = c.self.inside in
    let fits = c.self.invariant.fits in
    omega (
      arith,
      few_left (take inside.front.turns inside.list.items) inside.front.from fits.line,
      length-take-le inside.front.turns inside.list.items fits.turns,
      fits.room,
      fits.low,
    )

pub to_a2-self-inside-requires-clause-small : goal.to_a2-self-inside-requires-clause-small
to_a2-self-inside-requires-clause-small c =
    let inside = c.self.inside in
    let both = lengths (take inside.known inside.held.items) inside.list.items inside.width inside.front _ c.self.invariant.fits
    c.self.invariant.held in
    let room = rw (← c.self.view_is) at c.requires in
    omega (arith, both.0, both.1, room, c.self.invariant.fits.wide.1, c.self.invariant.fits.low)

pub invariant_of-self : goal.invariant_of-self
invariant_of-self c =
    let inside = c.self.inside in
    let both = lengths (take inside.known inside.held.items) inside.list.items inside.width inside.front _ c.self.invariant.fits
    c.self.invariant.held in
    let room = rw (← c.self.view_is) at c.requires in
    let after = c.to_a2-self-inside.ensures in
    record {
      known = c.self.invariant.known;
      room = c.self.invariant.room;
      held = c.self.invariant.held;
      fits = runs_fit (take inside.known inside.held.items) inside.list.items c.to_a2-self-inside.new.list.items inside.width inside.front
          c.to_a2-self-inside.result c.args.a0a1 c.args.a1a2 c.self.invariant.fits after.length after.left after.from
          (omega (arith, both.0, both.1, room, after.from)) after.at after.even after.most;
    }
