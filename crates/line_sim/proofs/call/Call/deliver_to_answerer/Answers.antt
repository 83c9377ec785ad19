use Rattle.line_sim.specs.declared.event.Event.TheVariants.{DeliverToAnswerer}
use Rattle.line_sim.proofs.Acting.{answerer_delivered, answerer_event, answerer_may}
use Rattle.line_sim.proofs.call.Call.deliver_to_answerer.Goals as goal

pub answerer_answers-requires : goal.answerer_answers-requires
answerer_answers-requires c =
    answerer_may c.args.self.now _ DeliverToAnswerer c.shown-shown.result c.deliver_to_answerer-answered.result
    (answerer_delivered c.args.self.now c.deliver_to_answerer-answered.new.answerer c.deliver_to_answerer-answered.new.self
    c.shown-shown.result c.deliver_to_answerer-answered.result c.deliver_to_answerer-answered.ensures.left c.shown-shown.ensures
    c.deliver_to_answerer-answered.ensures.heard)
    c.requires

pub returns : goal.returns
returns c =
    answerer_event c.args.self.now _ c.answerer_answers.new.self DeliverToAnswerer c.shown-shown.result
    c.deliver_to_answerer-answered.result c.answerer_answers.result
    (answerer_delivered c.args.self.now c.deliver_to_answerer-answered.new.answerer c.deliver_to_answerer-answered.new.self
    c.shown-shown.result c.deliver_to_answerer-answered.result c.deliver_to_answerer-answered.ensures.left c.shown-shown.ensures
    c.deliver_to_answerer-answered.ensures.heard)
    c.answerer_answers.ensures
