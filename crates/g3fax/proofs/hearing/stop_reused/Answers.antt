-- What the check asks of `stop_reused`.
use Rattle.std.proofs.Common.{◌≡◌, rules, true}
use Rattle.g3fax.specs.Hearing.{is_reused}
use Rattle.g3fax.specs.Stations.{behaviour}
use Rattle.g3fax.proofs.HeardLemmas.{stopped_is}
use Rattle.g3fax.proofs.hearing.stop_reused.Goals as goal

pub returns-then-is_reused : goal.returns-then-is_reused
returns-then-is_reused g c =
    let again : is_reused c.args.timed.now.watched ≡ true = search rules in
    rw again
    (stopped_is
    (behaviour g.S.Station.sends g.S.Station.steps g.S.Station.lends g.S.Stoppable.cut_off g.S.Stoppable.stop_says g.S.Stoppable.shows)
    c.args.timed.now c.stop.new.self c.stop.ensures.framing c.stop.ensures.speaking c.stop.ensures.rest)
