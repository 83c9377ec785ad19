use Rattle.std.proofs.Common.{sym, ◌∙◌}
use Rattle.stations.proofs.CallerRows.{dis_agrees}
use Rattle.stations.proofs.caller.Caller.hear_dis.Goals as goal

pub returns : goal.returns
returns c = λ t h. rw (← c.self.view_is) at
    (dis_agrees c.args.self.now t c.args.caps c.in-Some.params c.requires.state c.requires.goes_on h (sym c.agreed.ensures ∙ c.in-Some.is))
