use Rattle.stations.specs.Inputs.{answerer_input}
use Rattle.line_sim.proofs.Acting.{answerer_timer, answerer_event, answerer_may}
use Rattle.line_sim.proofs.call.Call.answerer_timer.Goals as goal

pub answerer_answers-requires : goal.answerer_answers-requires
answerer_answers-requires c =
    answerer_may c.args.self.now _ c.args.event _ c.step-answered.result
    (answerer_timer c.args.self.now c.step-answered.new.self c.args.event
    (answerer_input c.args.input) c.step-answered.result c.requires.timer c.step-answered.ensures.answers)
    c.requires.writes

pub returns : goal.returns
returns c =
    answerer_event c.args.self.now _ c.answerer_answers.new.self c.args.event _ c.step-answered.result c.answerer_answers.result
    (answerer_timer c.args.self.now c.step-answered.new.self c.args.event
    (answerer_input c.args.input) c.step-answered.result c.requires.timer c.step-answered.ensures.answers)
    c.answerer_answers.ensures
