-- An event keeps what holds of a world, makes at most two moves, and takes a whole block exactly.
use Rattle.std.proofs.Common.{subst}
use Rattle.line_sim.specs.Represents.{IsReached}
use Rattle.line_sim.proofs.Clauses.{event_moves}
use Rattle.line_sim.proofs.Invariant.{document_on, holds, reached_on, takes_whole}
use Rattle.line_sim.proofs.world.World.event.Goals as goal

pub returns-clause-moves : goal.returns-clause-moves
returns-clause-moves c =
    event_moves (c.layers_hold.ensures, c.signals_hold.ensures) c.headline.ensures.moves c.args.self.now c.apply.new.self c.args.event
    c.apply.result (subst IsReached c.self.view_is c.self.invariant.0) c.apply.ensures.ok c.apply.ensures.err

pub returns-clause-document : goal.returns-clause-document
returns-clause-document c =
    document_on (c.layers_hold.ensures, c.signals_hold.ensures) c.args.self.now c.apply.new.self c.args.event c.apply.result
    (subst IsReached c.self.view_is c.self.invariant.0) c.apply.ensures.ok c.apply.ensures.err

pub returns-clause-before : goal.returns-clause-before
returns-clause-before c =
    holds (
      (c.layers_hold.ensures, c.signals_hold.ensures),
      c.headline.ensures.facts,
      c.headline.ensures.steps,
      c.headline.ensures.runs,
      c.headline.ensures.safe,
    )
    c.args.self.now (subst IsReached c.self.view_is c.self.invariant.0)

pub returns-clause-after : goal.returns-clause-after
returns-clause-after c =
    holds (
      (c.layers_hold.ensures, c.signals_hold.ensures),
      c.headline.ensures.facts,
      c.headline.ensures.steps,
      c.headline.ensures.runs,
      c.headline.ensures.safe,
    )
    c.apply.new.self
    (reached_on c.args.self.now c.apply.new.self c.args.event c.apply.result (subst IsReached c.self.view_is c.self.invariant.0)
    c.apply.ensures.ok c.apply.ensures.err)

pub returns-clause-whole : goal.returns-clause-whole
returns-clause-whole c =
    takes_whole (c.layers_hold.ensures, c.signals_hold.ensures) c.headline.ensures.whole c.args.self.now c.apply.new.self c.args.event
    c.apply.result (subst IsReached c.self.view_is c.self.invariant.0) c.apply.ensures.ok
