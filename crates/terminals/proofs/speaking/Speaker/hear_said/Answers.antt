-- What the check asks of `hear_said`.
use Rattle.std.proofs.Common.{◌≡◌, Ok, refl, rules, subst, sym}
use Rattle.signals.specs.Signals.{plain_read}
use Rattle.terminals.specs.Hearing.{heard_if}
use Rattle.terminals.specs.Runs.{TakesAll}
use Rattle.terminals.proofs.speaking.Speaker.hear_said.Goals as goal

pub returns-in-Ok-hear_signal-clause-heard : goal.returns-in-Ok-hear_signal-clause-heard
returns-in-Ok-hear_signal-clause-heard g c =
    let is : c.args.said ≡ Ok c.in-Ok.signal = search rules in
    λ taken. subst (λ said. TakesAll g.S.Station.steps g.S.Station.lends c.args.self.now (heard_if (plain_read said)) c.hear_signal.new.self) (sym is)
    (c.hear_signal.new.self, c.in-Ok-hear_signal.ensures.ok, refl)
