use Rattle.std.proofs.Common.{ap, arith, subst, sym}
use Rattle.stations.specs.AnswererStep.{Answerer}
use Rattle.stations.specs.Laws.{Each}
use Rattle.stations.specs.Layers.{IsFullPage}
use Rattle.line_sim.proofs.Lives.{live_holds, live_new}
use Rattle.line_sim.proofs.live.LiveCall.of_coded.Goals as goal

pub invariant_of-result : goal.invariant_of-result
invariant_of-result c =
    record {
      live = live_new c.args.document c.args.wish c.args.caps c.in_ok-call.call
          (subst (Each IsFullPage) c.pages.ensures.pages c.are_full_pages.ensures) c.in_ok-call.ensures.1;
      few = omega arith;
      once = sym (ap (λ (s : Answerer). s.pages) c.in_ok-call.ensures.1.answerer);
    }

pub returns-clause-holds : goal.returns-clause-holds
returns-clause-holds c =
    live_holds (
      (c.layers_hold.ensures, c.signals_hold.ensures),
      c.headline.ensures.facts,
      c.headline.ensures.steps,
      c.headline.ensures.runs,
      c.headline.ensures.safe,
    )
    c.in_ok-call.call
    (live_new c.args.document c.args.wish c.args.caps c.in_ok-call.call
    (subst (Each IsFullPage) c.pages.ensures.pages c.are_full_pages.ensures) c.in_ok-call.ensures.1)
