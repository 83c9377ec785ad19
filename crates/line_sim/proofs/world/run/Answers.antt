use Rattle.std.proofs.Common.{◌≡◌, ◌+◌, arith, ap, length, subst, sym, take, get_or}
use Rattle.std.proofs.lemmas.List.{take_all}
use Rattle.line_sim.specs.declared.event.Event.TheVariants.{DeliverToAnswerer}
use Rattle.line_sim.proofs.Clauses.{run_keeps_laws}
use Rattle.line_sim.proofs.Runs.{Given as GivenEvents, none_given, one_given, take_next, tells_run, tells_whole, tells_with}
use Rattle.line_sim.proofs.world.run.Goals as goal

pub loop-event-init : goal.loop-event-init
loop-event-init c = (
  none_given c.args.document c.args.wish c.args.caps c.in_ok-world.world c.in_ok-world.ensures.new.1 c.in_ok-world.ensures.new.2,
  (let none : length c.in_ok-world.world.entries ≡ 0 = ap length c.in_ok-world.ensures.new.2 in omega (arith, none)),
)

pub loop-event-preserved : goal.loop-event-preserved
loop-event-preserved c = (
  subst (λ l. GivenEvents c.args.document c.args.wish c.args.caps l c.leaves_out-left_out.new.self)
      (sym (take_next c.args.events.now c.loop-event.event-index DeliverToAnswerer c.loop-event-test.true))
      (one_given c.args.document c.args.wish c.args.caps (take c.loop-event.event-index c.args.events.now) c.loop-event.world
      c.leaves_out-left_out.new.self (get_or c.args.events.now c.loop-event.event-index DeliverToAnswerer) c.loop-event.invariant.0
      c.leaves_out-left_out.ensures.becomes),
  omega (arith, c.loop-event.invariant.1, c.leaves_out-left_out.ensures.counted),
)

pub returns-clause-runs : goal.returns-clause-runs
returns-clause-runs c = (
  c.in_ok-world.ensures.new.0,
  tells_run c.args.document c.args.wish c.args.caps c.args.events.now c.loop-event.world
      (record c.report-report.result { left_out = c.loop-event.left_out })
      (subst (λ l. GivenEvents c.args.document c.args.wish c.args.caps l c.loop-event.world)
      (take_all c.loop-event.event-index c.args.events.now c.loop-event-test.false) c.loop-event.invariant.0)
      (λ w shows. tells_with c.loop-event.left_out c.report-report.result w c.loop-event.world.entries
      (c.report-report.ensures.tells w shows)),
)

pub returns-clause-keeps : goal.returns-clause-keeps
returns-clause-keeps c =
    run_keeps_laws
    (c.headline.ensures.facts, c.headline.ensures.steps, c.headline.ensures.runs, c.headline.ensures.safe, c.counted.ensures.runs)
    c.args.document c.args.wish c.args.caps
    c.args.events.now (record c.report-report.result { left_out = c.loop-event.left_out }) c.has_full_pages.ensures
    (tells_run c.args.document c.args.wish c.args.caps c.args.events.now c.loop-event.world
    (record c.report-report.result { left_out = c.loop-event.left_out })
    (subst (λ l. GivenEvents c.args.document c.args.wish c.args.caps l c.loop-event.world)
    (take_all c.loop-event.event-index c.args.events.now c.loop-event-test.false) c.loop-event.invariant.0)
    (λ w shows. tells_with c.loop-event.left_out c.report-report.result w c.loop-event.world.entries
    (c.report-report.ensures.tells w shows)))

tells_transcript : (c : goal.After-report-report) → length c.report-report.result.transcript.items ≡ length c.loop-event.world.entries
tells_transcript c =
    let g = c.loop-event.invariant.0 in
    ap length (c.report-report.ensures.tells _ g.shows).transcript

-- each event of the run has its entry or is counted
all_counted : (c : goal.After-report-report) →
    length c.report-report.result.transcript.items + c.loop-event.left_out ≡ length c.args.events.now
all_counted c =
    let world = tells_transcript c in
    omega (arith, c.loop-event.invariant.1, c.loop-event-test.false, c.loop-event.auto.event-index-end, world)

pub returns-clause-whole : goal.returns-clause-whole
returns-clause-whole c =
    tells_whole c.args.document c.args.wish c.args.caps c.args.events.now
    (record c.report-report.result { left_out = c.loop-event.left_out })
    (tells_run c.args.document c.args.wish c.args.caps c.args.events.now c.loop-event.world
    (record c.report-report.result { left_out = c.loop-event.left_out })
    (subst (λ l. GivenEvents c.args.document c.args.wish c.args.caps l c.loop-event.world)
    (take_all c.loop-event.event-index c.args.events.now c.loop-event-test.false) c.loop-event.invariant.0)
    (λ w shows. tells_with c.loop-event.left_out c.report-report.result w c.loop-event.world.entries
    (c.report-report.ensures.tells w shows)))
    (all_counted c)

pub returns-clause-each : goal.returns-clause-each
returns-clause-each c = all_counted c
