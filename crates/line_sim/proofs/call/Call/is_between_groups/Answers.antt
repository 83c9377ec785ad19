use Rattle.std.proofs.Common.{ap, sym, ◌∙◌}
use Rattle.std.specs.Prelude.{is_some}
use Rattle.line_sim.proofs.Between.{not_waiting}
use Rattle.line_sim.proofs.call.Call.is_between_groups.Goals as goal

pub returns-then-not-between_groups : goal.returns-then-not-between_groups
returns-then-not-between_groups c w shows =
    not_waiting w c.args.self.now.caller c.between_groups.result shows.caller
    (ap is_some (sym (c.end.ensures w.caller shows.caller)) ∙ (sym c.is_some.ensures ∙ c.if-is_some.false))
    (c.between_groups.ensures w.caller shows.caller) c.if-not-between_groups.true
