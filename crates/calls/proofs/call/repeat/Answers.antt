-- What the check asks of `repeat`.
use Rattle.std.proofs.Common.{◌≡◌, arith, subst}
use Rattle.calls.specs.Calls.{TellsCommand}
use Rattle.calls.specs.declared.script.Command.TheVariants.{Events}
use Rattle.calls.proofs.CallSteps.{none_repeated, repeated}
use Rattle.calls.proofs.call.repeat.Goals as goal

pub loop-time-init : goal.loop-time-init
loop-time-init g c =
    let written = g.T.CallWriter.written c.args.writer.now in
    (omega arith, λ w shows. none_repeated c.args.event c.args.live.now w c.args.number.now written shows)

pub loop-time-preserved : goal.loop-time-preserved
loop-time-preserved g c = (
  omega (arith, c.loop-time-test.true),
  λ w shows. repeated c.args.event c.loop-time._time c.loop-time.live c.tell.new.live w c.args.number.now c.loop-time.number
      c.tell.new.number (g.T.CallWriter.written c.args.writer.now) (g.T.CallWriter.written c.loop-time.writer)
      (g.T.CallWriter.written c.tell.new.writer) c.in_ok-_refused._refused (c.loop-time.invariant.1 w shows) c.in_ok-_refused.ensures.told,
)

pub returns-clause-told : goal.returns-clause-told
returns-clause-told g c w shows =
    let all : c.loop-time._time ≡ c.args.count = omega (arith, c.loop-time-test.false, c.loop-time.invariant.0) in
    subst (λ n. TellsCommand (Events c.args.event n) w c.loop-time.live c.args.number.now c.loop-time.number
    (g.T.CallWriter.written c.args.writer.now) (g.T.CallWriter.written c.loop-time.writer)) all (c.loop-time.invariant.1 w shows)
