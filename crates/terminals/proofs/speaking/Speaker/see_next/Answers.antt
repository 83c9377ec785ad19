-- What the check asks of `see_next`.
use Rattle.terminals.proofs.Sent.{left_seen}
use Rattle.terminals.proofs.speaking.Speaker.see_next.Goals as goal

pub returns : goal.returns
returns g c =
    rw (← c.self.view_is) (
      c.lend-bursts.result,
      c.lend-bursts.ensures,
      left_seen g.W.Watch.saw_said c.side.result g.S.Station.sends c.lend-bursts.result c.pass.new.bursts c.take_next-next.new.self
          c.take_next-next.result c.self.inside.taken c.args.watch.now c.see_burst.new.watch c.side.ensures c.pass.ensures
          c.take_next-next.ensures c.see_burst.ensures,
    )
