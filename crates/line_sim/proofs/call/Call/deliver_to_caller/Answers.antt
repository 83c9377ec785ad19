use Rattle.line_sim.specs.declared.event.Event.TheVariants.{DeliverToCaller}
use Rattle.line_sim.proofs.Acting.{caller_delivered, caller_event, caller_may}
use Rattle.line_sim.proofs.call.Call.deliver_to_caller.Goals as goal

pub caller_answers-requires : goal.caller_answers-requires
caller_answers-requires c =
    caller_may c.args.self.now _ DeliverToCaller c.shown-shown.result c.deliver_to_caller-answered.result
    (caller_delivered c.args.self.now c.deliver_to_caller-answered.new.caller c.deliver_to_caller-answered.new.self c.shown-shown.result
    c.deliver_to_caller-answered.result c.deliver_to_caller-answered.ensures.left c.shown-shown.ensures
    c.deliver_to_caller-answered.ensures.heard)
    c.requires

pub returns : goal.returns
returns c =
    caller_event c.args.self.now _ c.caller_answers.new.self DeliverToCaller c.shown-shown.result c.deliver_to_caller-answered.result
    c.caller_answers.result
    (caller_delivered c.args.self.now c.deliver_to_caller-answered.new.caller c.deliver_to_caller-answered.new.self c.shown-shown.result
    c.deliver_to_caller-answered.result c.deliver_to_caller-answered.ensures.left c.shown-shown.ensures
    c.deliver_to_caller-answered.ensures.heard)
    c.caller_answers.ensures
