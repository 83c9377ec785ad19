use Rattle.terminals.proofs.Fed.{hears_all, hears_some, saw_watched, sees}
use Rattle.terminals.proofs.terminal.Terminal.hear_by.Goals as goal

pub returns-then-hear_waiting-clause-hears : goal.returns-then-hear_waiting-clause-hears
returns-then-hear_waiting-clause-hears g c =
    rw (← c.self.view_is)
    (hears_all g.S.Station.steps g.S.Station.lends c.args.octets.now c.self.inside.deframer c.feed.new.self c.hear_waiting.new.deframer
    c.self.inside.speaker c.hear_waiting.new.speaker c.in_default.ensures.ok c.hear_waiting.ensures.taken
    (c.hear_waiting.ensures.all c.if-hear_waiting.true))

pub returns-clause-hears : goal.returns-clause-hears
returns-clause-hears g c =
    rw (← c.self.view_is)
    (hears_some g.S.Station.steps g.S.Station.lends c.args.octets.now c.self.inside.deframer c.feed.new.self c.hear_waiting.new.deframer
    c.self.inside.speaker c.hear_waiting.new.speaker c.in_default.ensures.ok c.hear_waiting.ensures.taken
    c.hear_waiting.ensures.some)

pub returns-then-hear_waiting-clause-sees : goal.returns-then-hear_waiting-clause-sees
returns-then-hear_waiting-clause-sees g c =
    rw (← c.self.view_is)
    (saw_watched c.args.octets.now c.self.inside.deframer c.feed.new.self c.args.watched.now c.hear_waiting.new.watched
    c.in_default.ensures.ok c.hear_waiting.ensures.watched)

pub returns-then-hear_waiting-clause-seen : goal.returns-then-hear_waiting-clause-seen
returns-then-hear_waiting-clause-seen g c =
    rw (← c.self.view_is)
    (sees g.W.Watch.saw c.args.octets.now c.self.inside.deframer c.feed.new.self c.args.watch.now c.hear_waiting.new.watch
    c.in_default.ensures.ok c.hear_waiting.ensures.seen)

pub returns-clause-sees : goal.returns-clause-sees
returns-clause-sees g c =
    rw (← c.self.view_is)
    (saw_watched c.args.octets.now c.self.inside.deframer c.feed.new.self c.args.watched.now c.hear_waiting.new.watched
    c.in_default.ensures.ok c.hear_waiting.ensures.watched)

pub returns-clause-seen : goal.returns-clause-seen
returns-clause-seen g c =
    rw (← c.self.view_is)
    (sees g.W.Watch.saw c.args.octets.now c.self.inside.deframer c.feed.new.self c.args.watch.now c.hear_waiting.new.watch
    c.in_default.ensures.ok c.hear_waiting.ensures.seen)
