-- What the check asks of `call_engine`.
use Rattle.calls.proofs.CallEnds.{runs_call}
use Rattle.calls.proofs.call.call_engine.Goals as goal

pub returns-in-Ok-clause-called : goal.returns-in-Ok-clause-called
returns-in-Ok-clause-called g c =
    runs_call c.args.options.now (g.S.Read.remaining c.args.script.now) (g.R.Read.remaining c.args.input.now)
    (g.T.CallWriter.written c.args.writer.now) (g.T.CallWriter.written c.call_to_end.new.writer) c.in-Ok.ending c.in-Ok.ensures.called
