-- A new world begins as the definition says.
use Rattle.std.proofs.Common.{refl}
use Rattle.line_sim.proofs.Beginning.{reached_new}
use Rattle.line_sim.proofs.Invariant.{begins}
use Rattle.line_sim.proofs.world.World.new.Goals as goal

pub invariant_of-result : goal.invariant_of-result
invariant_of-result c =
    rw c.new-2.ensures.items (
      reached_new c.args.document c.args.wish c.args.caps c.in_ok-call.call c.has_full_pages.ensures (rw c.uncoded.ensures at c.in_ok-call.ensures.1),
      refl,
    )

pub returns-clause-begins : goal.returns-clause-begins
returns-clause-begins c =
    begins (
      (c.layers_hold.ensures, c.signals_hold.ensures),
      c.headline.ensures.facts,
      c.headline.ensures.steps,
      c.headline.ensures.runs,
      c.headline.ensures.safe,
    )
    c.args.document c.args.wish c.args.caps _ c.has_full_pages.ensures (rw c.uncoded.ensures at c.in_ok-call.ensures.1) c.new-2.ensures.items
