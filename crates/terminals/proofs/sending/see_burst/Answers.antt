-- What the check asks of `see_burst`.
use Rattle.std.proofs.Common.{Option, subst}
use Rattle.stations.specs.GivenBursts.{GivesBurst}
use Rattle.stations.specs.declared.bursts.Burst.{Burst}
use Rattle.terminals.proofs.Sent.{burst_seen, none_is_seen}
use Rattle.terminals.proofs.sending.see_burst.Goals as goal

pub returns-in-Some : goal.returns-in-Some
returns-in-Some g c = λ bursts later gives.
    burst_seen g.W.Watch.saw_said c.args.side c.in-Some.burst c.args.watch.now c.see_items.new.watch c.see_items.ensures bursts later
    (subst (λ (b : Option Burst). GivesBurst bursts b later) c.in-Some.is gives)

pub returns-in-None : goal.returns-in-None
returns-in-None g c = λ bursts later gives.
    none_is_seen g.W.Watch.saw_said c.args.side c.args.watch.now bursts later
    (subst (λ (b : Option Burst). GivesBurst bursts b later) c.in-None.is gives)
