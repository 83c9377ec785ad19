use Rattle.stations.specs.Inputs.{answerer_input}
use Rattle.stations.proofs.AnswererKeeping.{keeps_by}
use Rattle.stations.proofs.OpenLimits.{step_limited}
use Rattle.stations.proofs.answerer.Answerer.step.Goals as goal

pub returns-clause-limits : goal.returns-clause-limits
returns-clause-limits c = step_limited c.open_is_limited.ensures.steps c.args.self.now c.advance.new.self
    (answerer_input c.args.input) c.advance.result c.advance.ensures.answers

pub returns-clause-keeps : goal.returns-clause-keeps
returns-clause-keeps c = keeps_by c.answerers_keep.ensures.keep c.args.self.now c.advance.new.self
    (answerer_input c.args.input) c.advance.result c.advance.ensures.answers
