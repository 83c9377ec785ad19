use Rattle.std.proofs.Common.{sym, ◌∙◌}
use Rattle.stations.proofs.CallerRows.{ftt_lowers}
use Rattle.stations.proofs.caller.Caller.hear_ftt.Goals as goal

pub returns : goal.returns
returns c = λ t h. rw (← c.self.view_is) at
    (ftt_lowers c.args.self.now t c.in-Some.params c.requires.state c.requires.goes_on h (sym c.lowered.ensures ∙ c.in-Some.is))
