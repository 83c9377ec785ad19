use Rattle.stations.specs.Inputs.{caller_input}
use Rattle.stations.proofs.Keeping.{keeps_by}
use Rattle.stations.proofs.Lasting.{lasts_by}
use Rattle.stations.proofs.Spending.{spends_by}
use Rattle.stations.proofs.caller.Caller.step.Goals as goal

pub returns-clause-spends : goal.returns-clause-spends
returns-clause-spends c = spends_by c.steps_spend.ensures c.args.self.now c.advance.new.self
    (caller_input c.args.input) c.advance.result c.advance.ensures.answers

pub returns-clause-keeps : goal.returns-clause-keeps
returns-clause-keeps c = keeps_by c.callers_keep.ensures.keep c.callers_keep.ensures.take c.args.self.now c.advance.new.self
    (caller_input c.args.input) c.advance.result c.advance.ensures.answers

pub returns-clause-uses : goal.returns-clause-uses
returns-clause-uses c = lasts_by c.callers_end.ensures.steps c.args.self.now c.advance.new.self
    (caller_input c.args.input) c.advance.result c.advance.ensures.answers
