use Rattle.terminals.proofs.CutOff.{limited_is_shown}
use Rattle.terminals.proofs.stopping.LimitedAnswererStoppable.shown.Goals as goal

pub returns : goal.returns
returns c =
    limited_is_shown c.args.self.now c.station-station.result.now c.end-end.result c.waits.result c.longer_wait.result
    c.unless_ended.result c.unless_ended-2.result c.listens.result c.last_mark.result c.station-station.ensures c.end-end.ensures c.waits.ensures
    c.longer_wait.ensures c.unless_ended.ensures c.unless_ended-2.ensures c.listens.ensures c.last_mark.ensures
