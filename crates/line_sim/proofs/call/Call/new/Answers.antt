use Rattle.std.proofs.Common.{subst, sym}
use Rattle.line_sim.specs.Octets.{AreFinal}
use Rattle.line_sim.proofs.Finals.{answerer_final}
use Rattle.line_sim.proofs.Beginning.{shows_new}
use Rattle.line_sim.proofs.call.Call.new.Goals as goal

pub send-requires-clause-told : goal.send-requires-clause-told
send-requires-clause-told c =
    subst AreFinal (sym c.frames.ensures) (answerer_final c.new-answerer.result.0 c.new-answerer.result.1)

pub returns : goal.returns
returns c = (
  c.in_ok-caller.ensures.0,
  shows_new c.args.document c.args.wish c.args.caps c.in_ok-caller.caller c.new-answerer.result.0 c.new-answerer.result.1
      c.new-to_answerer.result c.send.new.self c.new-to_caller.result c.frames.result c.in_ok-caller.ensures.1 c.new-answerer.ensures.station
      c.new-answerer.ensures.turn c.new-to_answerer.ensures c.new-to_caller.ensures c.frames.ensures c.in_ok-send.ensures.ok,
)
