use Rattle.std.proofs.Common.{sym, ◌∙◌}
use Rattle.terminals.specs.Hearing.{plain_input}
use Rattle.terminals.proofs.Taking.{takes_said, takes_silent}
use Rattle.terminals.proofs.speaking.Speaker.hear.Goals as goal

pub returns-then-is_silent-clause-ok : goal.returns-then-is_silent-clause-ok
returns-then-is_silent-clause-ok g c =
    rw (← c.self.view_is)
    (takes_silent g.S.Station.steps
    (record { station = c.self.inside.station; turn = c.self.inside.turn; taken = c.self.inside.taken })
    (plain_input c.args.input) c.take.new.self c.in_ok-turn.turn c.in_ok-turn.ensures (sym c.is_silent.ensures ∙ c.if-is_silent.true))

pub returns-clause-ok : goal.returns-clause-ok
returns-clause-ok g c =
    rw (← c.self.view_is)
    (takes_said g.S.Station.steps
    (record { station = c.self.inside.station; turn = c.self.inside.turn; taken = c.self.inside.taken })
    (plain_input c.args.input) c.take.new.self c.in_ok-turn.turn c.in_ok-turn.ensures (sym c.is_silent.ensures ∙ c.if-is_silent.false))
