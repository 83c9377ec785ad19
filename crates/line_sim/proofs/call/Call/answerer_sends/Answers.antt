use Rattle.std.proofs.lemmas.Bool.{iff_false}
use Rattle.std.proofs.Common.{subst, sym}
use Rattle.line_sim.specs.Octets.{AreFinal}
use Rattle.line_sim.proofs.Finals.{answerer_final}
use Rattle.line_sim.proofs.Sent.{answerer_sent_so}
use Rattle.line_sim.proofs.call.Call.answerer_sends.Goals as goal

pub send-requires-clause-told : goal.send-requires-clause-told
send-requires-clause-told c =
    subst AreFinal (sym c.frames.ensures) (answerer_final c.args.self.now.answerer c.args.turn.now)

pub returns : goal.returns
returns c =
    answerer_sent_so c.args.self.now c.args.turn.now c.send.result c.is_err.result c.frames.result c.send.new.self c.clear.new.self
    (iff_false c.is_silent.ensures c.if-is_silent.false) c.is_err.ensures.value c.frames.ensures c.send.ensures.ok c.send.ensures.err
    c.clear.ensures
