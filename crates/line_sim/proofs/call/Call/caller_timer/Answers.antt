use Rattle.stations.specs.Inputs.{caller_input}
use Rattle.line_sim.proofs.Acting.{caller_timer, caller_event, caller_may}
use Rattle.line_sim.proofs.call.Call.caller_timer.Goals as goal

pub caller_answers-requires : goal.caller_answers-requires
caller_answers-requires c =
    caller_may c.args.self.now _ c.args.event _ c.step-answered.result
    (caller_timer c.args.self.now c.step-answered.new.self c.args.event
    (caller_input c.args.input) c.step-answered.result c.requires.timer c.step-answered.ensures.answers)
    c.requires.writes

pub returns : goal.returns
returns c =
    caller_event c.args.self.now _ c.caller_answers.new.self c.args.event _ c.step-answered.result c.caller_answers.result
    (caller_timer c.args.self.now c.step-answered.new.self c.args.event
    (caller_input c.args.input) c.step-answered.result c.requires.timer c.step-answered.ensures.answers)
    c.caller_answers.ensures
