-- What the check asks of `follow_script`.
use Rattle.std.proofs.Common.{refl}
use Rattle.std.proofs.lemmas.Result.{err_from_is_err_and}
use Rattle.calls.proofs.FollowedScripts.{last_followed, last_stopped, line_followed, next_stopped, none_so_far}
use Rattle.calls.proofs.call.follow_script.Goals as goal

pub loop-line-init : goal.loop-line-init
loop-line-init g c =
    none_so_far c.args.script.now c.args.live.now c.args.number.now (g.T.CallWriter.written c.args.writer.now)

pub loop-line-preserved : goal.loop-line-preserved
loop-line-preserved g c =
    line_followed _ _ c.in-Some.line.now c.in-Some.after.now _ _ c.args.live.now c.loop-line.live c.follow_line.new.live
    c.args.number.now c.loop-line.number c.follow_line.new.number (g.T.CallWriter.written c.args.writer.now)
    (g.T.CallWriter.written c.loop-line.writer) (g.T.CallWriter.written c.follow_line.new.writer) c.loop-line.invariant
    c.in-Some.ensures.0 c.in-Some.ensures.1 c.in_ok-follow_line.ensures.told refl

pub returns-clause-told : goal.returns-clause-told
returns-clause-told g c =
    last_followed _ _ _ c.args.live.now c.loop-line.live c.follow_line-2.new.live
    c.args.number.now c.loop-line.number c.follow_line-2.new.number (g.T.CallWriter.written c.args.writer.now)
    (g.T.CallWriter.written c.loop-line.writer) (g.T.CallWriter.written c.follow_line-2.new.writer) c.loop-line.invariant
    c.in_default.ensures c.in_ok-follow_line-2.ensures.told

pub returns-in_err-follow_line-clause-fault : goal.returns-in_err-follow_line-clause-fault
returns-in_err-follow_line-clause-fault g c =
    let p = err_from_is_err_and c.from_residual.result c.from_residual.ensures.1 in
    rw (p.1, p.2)
    (next_stopped _ _ c.in-Some.line.now c.in-Some.after.now _ c.args.live.now c.loop-line.live c.args.number.now c.loop-line.number
    (g.T.CallWriter.written c.args.writer.now) (g.T.CallWriter.written c.loop-line.writer) _ c.loop-line.invariant c.in-Some.ensures.0
    c.in-Some.ensures.1 c.in_err-follow_line.ensures.fault)

pub returns-in_err-follow_line-2-clause-fault : goal.returns-in_err-follow_line-2-clause-fault
returns-in_err-follow_line-2-clause-fault g c =
    let p = err_from_is_err_and c.from_residual-in_err-follow_line-2.result c.from_residual-in_err-follow_line-2.ensures.1 in
    rw (p.1, p.2)
    (last_stopped _ _ _ c.args.live.now c.loop-line.live c.args.number.now c.loop-line.number
    (g.T.CallWriter.written c.args.writer.now) (g.T.CallWriter.written c.loop-line.writer) _ c.loop-line.invariant
    c.in_default.ensures c.in_err-follow_line-2.ensures.fault)
