-- What the check asks of `politely`.
use Rattle.std.proofs.Common.{◌≡◌, arith}
use Rattle.calls.proofs.CallSteps.{all_along, at_start, ends_along, one_along}
use Rattle.calls.proofs.call.politely.Goals as goal

pub loop-delivery-init : goal.loop-delivery-init
loop-delivery-init g c =
    (omega arith, λ w shows. at_start c.args.live.now w c.args.number.now (g.T.CallWriter.written c.args.writer.now) shows)

pub returns-then-not-whole-clause-told : goal.returns-then-not-whole-clause-told
returns-then-not-whole-clause-told g c w shows =
    ends_along c.loop-delivery._delivery c.args.most w c.loop-delivery.live c.deliver_next.new.live c.args.number.now
    c.loop-delivery.number c.deliver_next.new.number (g.T.CallWriter.written c.args.writer.now)
    (g.T.CallWriter.written c.loop-delivery.writer) (g.T.CallWriter.written c.deliver_next.new.writer) _ c.loop-delivery-test.true
    c.if-not-whole.true (c.loop-delivery.invariant.1 w shows) c.in_ok-whole.ensures.told

pub loop-delivery-preserved : goal.loop-delivery-preserved
loop-delivery-preserved g c = (
  omega (arith, c.loop-delivery-test.true),
  λ w shows. one_along c.loop-delivery._delivery w c.loop-delivery.live c.deliver_next.new.live c.args.number.now c.loop-delivery.number
      c.deliver_next.new.number (g.T.CallWriter.written c.args.writer.now) (g.T.CallWriter.written c.loop-delivery.writer)
      (g.T.CallWriter.written c.deliver_next.new.writer) _ c.if-not-whole.false (c.loop-delivery.invariant.1 w shows)
      c.in_ok-whole.ensures.told,
)

pub returns-clause-told : goal.returns-clause-told
returns-clause-told g c w shows =
    let all : c.loop-delivery._delivery ≡ c.args.most = omega (arith, c.loop-delivery-test.false, c.loop-delivery.invariant.0) in
    all_along c.loop-delivery._delivery c.args.most w c.loop-delivery.live c.args.number.now c.loop-delivery.number
    (g.T.CallWriter.written c.args.writer.now) (g.T.CallWriter.written c.loop-delivery.writer) all (c.loop-delivery.invariant.1 w shows)
