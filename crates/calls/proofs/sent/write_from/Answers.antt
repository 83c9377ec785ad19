-- What the check asks of `write_from`.
use Rattle.std.proofs.Common.{◌≤◌, length, arith}
use Rattle.std.proofs.lemmas.List.{drop_all}
use Rattle.line_sim.specs.Octets.{under_way_to}
use Rattle.calls.proofs.SentItems.{all_upto, at_first, one_upto}
use Rattle.calls.proofs.sent.write_from.Goals as goal

pub loop-place-init : goal.loop-place-init
loop-place-init g c =
    at_first c.args.to (under_way_to c.args.to c.args.live.now) c.args.first (g.T.CallWriter.written c.args.writer.now)

pub returns-in_default-clause-sent : goal.returns-in_default-clause-sent
returns-in_default-clause-sent g c =
    all_upto c.args.to (under_way_to c.args.to c.args.live.now) c.args.first c.loop-place.place
    (g.T.CallWriter.written c.args.writer.now) (g.T.CallWriter.written c.loop-place.writer) c.loop-place.invariant c.in_default.ensures

pub loop-place-preserved : goal.loop-place-preserved
loop-place-preserved g c =
    one_upto c.args.to (under_way_to c.args.to c.args.live.now) c.args.first c.loop-place.place
    (g.T.CallWriter.written c.args.writer.now) (g.T.CallWriter.written c.loop-place.writer) (g.T.CallWriter.written c.sent.new.self)
    c.in-Some.item c.loop-place.invariant c.in-Some.ensures c.in_ok-sent.ensures.octets

pub returns-clause-sent : goal.returns-clause-sent
returns-clause-sent g c =
    let past : length (under_way_to c.args.to c.args.live.now) ≤ c.loop-place.place =
    omega (arith, c.loop-place-test.false, c.count_to-place-end.ensures.count) in
    all_upto c.args.to (under_way_to c.args.to c.args.live.now) c.args.first c.loop-place.place
    (g.T.CallWriter.written c.args.writer.now) (g.T.CallWriter.written c.loop-place.writer) c.loop-place.invariant
    (drop_all c.loop-place.place (under_way_to c.args.to c.args.live.now) past)
