-- A polite run keeps what holds of a world.
use Rattle.std.proofs.Common.{subst}
use Rattle.line_sim.specs.Represents.{IsReached}
use Rattle.line_sim.proofs.Invariant.{document_along, holds, moves_along, reached_along}
use Rattle.line_sim.proofs.Undisturbed.{goes_through}
use Rattle.line_sim.proofs.world.World.polite.Goals as goal

pub returns-clause-through : goal.returns-clause-through
returns-clause-through c =
    goes_through (c.layers_hold.ensures, c.signals_hold.ensures) c.polite_calls.ensures.calls c.args.self.now c.deliver.new.self
    c.args.most c.deliver.result (subst IsReached c.self.view_is c.self.invariant.0) c.deliver.ensures

pub returns-clause-moves : goal.returns-clause-moves
returns-clause-moves c =
    moves_along (c.layers_hold.ensures, c.signals_hold.ensures) c.args.self.now c.deliver.new.self c.args.most c.deliver.result
    (subst IsReached c.self.view_is c.self.invariant.0) c.deliver.ensures

pub returns-clause-document : goal.returns-clause-document
returns-clause-document c =
    document_along (c.layers_hold.ensures, c.signals_hold.ensures) c.args.self.now c.deliver.new.self c.args.most c.deliver.result
    (subst IsReached c.self.view_is c.self.invariant.0) c.deliver.ensures

pub returns-clause-before : goal.returns-clause-before
returns-clause-before c =
    holds (
      (c.layers_hold.ensures, c.signals_hold.ensures),
      c.headline.ensures.facts,
      c.headline.ensures.steps,
      c.headline.ensures.runs,
      c.headline.ensures.safe,
    )
    c.args.self.now (subst IsReached c.self.view_is c.self.invariant.0)

pub returns-clause-after : goal.returns-clause-after
returns-clause-after c =
    holds (
      (c.layers_hold.ensures, c.signals_hold.ensures),
      c.headline.ensures.facts,
      c.headline.ensures.steps,
      c.headline.ensures.runs,
      c.headline.ensures.safe,
    )
    c.deliver.new.self
    (reached_along c.args.self.now c.deliver.new.self c.args.most c.deliver.result (subst IsReached c.self.view_is c.self.invariant.0)
    c.deliver.ensures)
