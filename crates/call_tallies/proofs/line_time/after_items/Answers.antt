-- What the check asks of `after_items`.
use Rattle.std.proofs.Common.{◌≤◌, ◌∙◌, ap, length, arith}
use Rattle.std.proofs.lemmas.List.{drop_all}
use Rattle.line_sim.specs.Octets.{sender_to, under_way_to}
use Rattle.call_tallies.specs.LineTimes.{after_item}
use Rattle.call_tallies.proofs.LineTimes.{all_through, one_through}
use Rattle.call_tallies.proofs.line_time.after_items.Goals as goal

pub returns-in_default-clause-runs : goal.returns-in_default-clause-runs
returns-in_default-clause-runs c =
    all_through (sender_to c.args.to) (under_way_to c.args.to c.args.live.now) c.args.first c.loop-place.place c.args.clock
    c.loop-place.clock c.loop-place.invariant c.in_default.ensures

pub loop-place-preserved : goal.loop-place-preserved
loop-place-preserved c =
    one_through (sender_to c.args.to) (under_way_to c.args.to c.args.live.now) c.args.first c.loop-place.place c.args.clock
    c.loop-place.clock c.in_ok-clock.clock c.in-Some.item c.loop-place.invariant c.in-Some.ensures
    (c.in_ok-clock.ensures.after ∙ ap (λ f. after_item f (length c.in-Some.item.octets.now) c.loop-place.clock) c.form.ensures)

pub returns-clause-runs : goal.returns-clause-runs
returns-clause-runs c =
    let past : length (under_way_to c.args.to c.args.live.now) ≤ c.loop-place.place =
    omega (arith, c.loop-place-test.false, c.count_to-place-end.ensures.count) in
    all_through (sender_to c.args.to) (under_way_to c.args.to c.args.live.now) c.args.first c.loop-place.place c.args.clock
    c.loop-place.clock c.loop-place.invariant (drop_all c.loop-place.place (under_way_to c.args.to c.args.live.now) past)
